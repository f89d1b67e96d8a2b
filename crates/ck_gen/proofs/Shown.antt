-- What is kept of the channels of a port, as what a history shows in a run.
use Rattle.std.specs.Prelude.{◌≡◌, refl, ℕ, ◌<◌, ◌^◌, ◌==◌, Bool, true, false, List, [], ◌∷◌, ◌++◌}
use Rattle.std.specs.Prelude.{length, map, reverse}
use Rattle.std.specs.List.{AllByRecursion}
use Rattle.std.proofs.Common.{ap, sym, arith, subst}
use Rattle.std.proofs.lemmas.List.{reverse-append}
use Rattle.fv_bits.specs.Bits.{bit}
use Rattle.wn_net.specs.Value.{Given}
use Rattle.wn_net.specs.Net.{Netlist, IsNet, IsNodeOf, value_at}
use Rattle.wn_net.specs.Given.{IsGiven}
use Rattle.wn_net.specs.Changes.{AddsRegs}
use Rattle.wn_net.proofs.Moved.{value_within}
use Rattle.rvfi_port.specs.declared.port.Channel.{Channel}
use Rattle.rvfi_port.specs.Channels.{retire_at}
use Rattle.ck_cfg.specs.declared.kind.CheckKind.{CheckKind}
use Rattle.ck_cfg.specs.declared.kind.CheckKind.TheVariants as kinds
use Rattle.ck_history.specs.Entries.{Entry, IsEntry, Show, packed}
use Rattle.rvfi_port.specs.Ports.{AreChannelNodes}
use Rattle.rvfi_port.proofs.AddedRegs.{retire_on}
use Rattle.ck_gen.specs.Kept.{entry, kept, kept_in}

abbrev pub kept_of : CheckKind → Netlist → Given → Channel → Entry
kept_of kind net g c = kept kind (value_at net g c.valid) (retire_at net g c)

kept_each : (kind : CheckKind) (old new : Netlist) (g : Given) (cs : List Channel) → AddsRegs old new
    → AllByRecursion (AreChannelNodes old) cs → map (kept_of kind new g) cs ≡ map (kept_of kind old g) cs
kept_each kind old new g [] adds own = refl
kept_each kind old new g (c ∷ cs) adds own = λ i.
    kept kind (adds.values g c.valid own.0.valid.0 i) (retire_on old new g c adds own.0 i)
    ∷ kept_each kind old new g cs adds own.1 i

pub kept_on : (kind : CheckKind) (old new : Netlist) (g : Given) (cs : List Channel) → AddsRegs old new
    → AllByRecursion (AreChannelNodes old) cs → kept_in kind new g cs ≡ kept_in kind old g cs
kept_on kind old new g cs adds own = ap reverse (kept_each kind old new g cs adds own)

-- ---- what is kept has its widths

more_room : (m n k : ℕ) → m < 2 ^ 32 → m < 2 ^ 64
more_room m n k h = omega (arith, h)

bit_small : (b : Bool) → bit b < 2 ^ 5
bit_small true = omega arith
bit_small false = omega arith

module _ (net : Netlist) (g : Given) (whole : IsNet net) (given : IsGiven net g) where
  within : (w id : ℕ) → IsNodeOf net w id → value_at net g id < 2 ^ w
  within w id own = value_within net g w id whole given own

  plain : (c : Channel) → AreChannelNodes net c
      → IsEntry (entry (value_at net g c.valid) (value_at net g c.order) 0 (value_at net g c.pc_rdata))
  plain c own = record {
    there = within 1 c.valid own.valid;
    key = within 64 c.order own.order;
    small = omega arith;
    word = within 32 c.pc_rdata own.pc_rdata;
  }

  is_entry : (kind : CheckKind) (c : Channel) → AreChannelNodes net c → IsEntry (kept_of kind net g c)
  is_entry kinds.Reg c own = record {
    there = within 1 c.valid own.valid;
    key = within 64 c.order own.order;
    small = within 5 c.rd_addr own.rd_addr;
    word = within 32 c.rd_wdata own.rd_wdata;
  }
  is_entry kinds.PcFwd c own = record {
    there = within 1 c.valid own.valid;
    key = within 64 c.order own.order;
    small = omega arith;
    word = within 32 c.pc_wdata own.pc_wdata;
  }
  is_entry kinds.PcBwd c own = record {
    there = within 1 c.valid own.valid;
    key = within 64 c.order own.order;
    small = bit_small _;
    word = within 32 c.pc_rdata own.pc_rdata;
  }
  is_entry kinds.Causal c own = record {
    there = within 1 c.valid own.valid;
    key = within 64 c.order own.order;
    small = within 5 c.rs1_addr own.rs1_addr;
    word = omega (arith, within 5 c.rs2_addr own.rs2_addr);
  }
  is_entry kinds.Liveness c own = record {
    there = within 1 c.valid own.valid;
    key = within 64 c.order own.order;
    small = bit_small _;
    word = within 32 c.pc_rdata own.pc_rdata;
  }
  is_entry kinds.Dmem c own = record {
    there = within 1 c.valid own.valid;
    key = omega (arith, within 32 c.mem_addr own.mem_addr);
    small = omega (arith, within 4 c.mem_wmask own.mem_wmask);
    word = within 32 c.mem_wdata own.mem_wdata;
  }
  is_entry kinds.Insn c own = plain c own
  is_entry kinds.Ill c own = plain c own
  is_entry kinds.Unique c own = plain c own
  is_entry kinds.Imem c own = plain c own

  are_entries : (kind : CheckKind) (cs : List Channel) → AllByRecursion (AreChannelNodes net) cs
      → AllByRecursion IsEntry (map (kept_of kind net g) cs)
  are_entries kind [] own = tt
  are_entries kind (c ∷ cs) own = (is_entry kind c own.0, are_entries kind cs own.1)

all_append : (xs ys : List Entry) → AllByRecursion IsEntry xs → AllByRecursion IsEntry ys
    → AllByRecursion IsEntry (xs ++ ys)
all_append [] ys own more = more
all_append (x ∷ xs) ys own more = (own.0, all_append xs ys own.1 more)

all_reverse : (xs : List Entry) → AllByRecursion IsEntry xs → AllByRecursion IsEntry (reverse xs)
all_reverse [] own = tt
all_reverse (x ∷ xs) own =
    let P : List Entry → Type 0 = λ es. AllByRecursion IsEntry es in
    subst P (sym (reverse-append (x ∷ []) xs)) (all_append (reverse xs) (x ∷ []) (all_reverse xs own.1) (own.0, tt))

first_is : (x y : ℕ) (xs ys : List ℕ) → x ∷ xs ≡ y ∷ ys → x ≡ y
first_is x y xs ys e = cc

rest_is : (x y : ℕ) (xs ys : List ℕ) → x ∷ xs ≡ y ∷ ys → xs ≡ ys
rest_is x y xs ys e = cc

-- nodes whose numbers are those of entries show them
shown : (net : Netlist) (g : Given) (ids : List ℕ) (es : List Entry) → AllByRecursion IsEntry es
    → map (value_at net g) ids ≡ map packed es → Show net g ids es
shown net g [] [] own e = tt
shown net g (id ∷ ids) (x ∷ xs) own e = (first_is _ _ _ _ e, own.0, shown net g ids xs own.1 (rest_is _ _ _ _ e))
shown net g [] (x ∷ xs) own e = absurd (omega (arith, ap length e))
shown net g (id ∷ ids) [] own e = absurd (omega (arith, ap length e))

pub words_show : (net : Netlist) (g : Given) (kind : CheckKind) (cs : List Channel) (words : List ℕ) → IsNet net
    → IsGiven net g → AllByRecursion (AreChannelNodes net) cs
    → map (value_at net g) words ≡ map packed (kept_in kind net g cs) → Show net g words (kept_in kind net g cs)
words_show net g kind cs words whole given own e =
    shown net g words (kept_in kind net g cs)
    (all_reverse (map (kept_of kind net g) cs) (are_entries net g whole given kind cs own)) e
