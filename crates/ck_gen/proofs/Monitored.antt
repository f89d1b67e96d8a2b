-- The property of a check that looks back, by the words of a history.
use Rattle.std.specs.Prelude.{◌≡◌, refl, ℕ, zero, suc, ◌+◌, ◌-◌, ◌<◌, Bool}
use Rattle.std.specs.Prelude.{true, false, if◌then◌else◌, List, [], ◌∷◌}
use Rattle.std.specs.Prelude.{◌++◌, length, map, reverse, take, drop, slice_index_or}
use Rattle.std.proofs.Common.{ap, sym, ◌∙◌, arith, subst}
use Rattle.std.proofs.lemmas.List.{reverse-append, append_assoc, map-append, length-reverse, length-map}
use Rattle.rv_table.specs.declared.retire.Retire.{Retire}
use Rattle.rv_table.specs.declared.retire.Opts.{Opts}
use Rattle.wn_net.specs.Value.{Given}
use Rattle.wn_net.specs.Net.{Netlist, value_at}
use Rattle.rvfi_port.specs.declared.port.Channel.{Channel}
use Rattle.rvfi_port.specs.Channels.{retires, retire_at}
use Rattle.ck_cfg.specs.declared.check.Check.{Check}
use Rattle.ck_cfg.specs.declared.kind.CheckKind.{CheckKind}
use Rattle.ck_cfg.specs.declared.kind.CheckKind.TheVariants as kinds
use Rattle.ck_spec.specs.declared.retired.Retired.{Retired}
use Rattle.ck_spec.specs.declared.retired.Probe.{Probe}
use Rattle.ck_spec.specs.Lists.{looks_both_ways, found_at, where_found}
use Rattle.ck_spec.specs.Properties.{holds_at, cycle_of, property}
use Rattle.ck_history.specs.Entries.{Entry}
use Rattle.ck_history.specs.Lines.{past}
use Rattle.ck_gen.specs.Around.{earlier_of}
use Rattle.ck_gen.specs.Retirements.{retirements}
use Rattle.ck_gen.specs.Kept.{kept, kept_in, holds_over, LooksBack}
use Rattle.ck_gen.proofs.Held.{earlier, reg_is, fwd_is, bwd_is, causal_is, dmem_is}
use Rattle.ck_gen.proofs.Property.{found_is}

-- a channel with those before and behind it
pub record IsAmong (cs : List Channel) (place : ℕ) (c : Channel) : Type 0 where
  pub before : List Channel
  pub behind : List Channel
  pub all : before ++ c ∷ behind ≡ cs
  pub many : place ≡ length before

pub is_among : (cs : List Channel) (place : ℕ) (c d : Channel) → place < length cs → c ≡ slice_index_or cs place d
    → IsAmong cs place c
is_among [] place c d below e = absurd (omega (arith, below))
is_among (x ∷ xs) zero c d below e =
    record { before = []; behind = xs; all = ap (λ y. y ∷ xs) e; many = refl }
is_among (x ∷ xs) (suc place) c d below e =
    let rest = is_among xs place c d (omega (arith, below)) e in
    record {
      before = x ∷ rest.before;
      behind = rest.behind;
      all = ap (λ ys. x ∷ ys) rest.all;
      many = ap suc rest.many;
    }

take_front : (xs ys : List Entry) → take (length xs) (xs ++ ys) ≡ xs
take_front [] ys = refl
take_front (x ∷ xs) ys = ap (λ us. x ∷ us) (take_front xs ys)

drop_next : (xs ys : List Entry) (y : Entry) → drop (length xs + 1) (xs ++ y ∷ ys) ≡ ys
drop_next [] ys y = refl
drop_next (x ∷ xs) ys y =
    let e : suc (length xs) + 1 ≡ suc (length xs + 1) = omega arith in
    ap (λ n. drop n (x ∷ (xs ++ y ∷ ys))) e ∙ drop_next xs ys y

module _ (net : Netlist) (run : ℕ → Given) (before behind : List Channel) (c : Channel) (check : Check) (d : ℕ)
    (last : check.cycle ≡ check.start + d) (own_channel : check.channel ≡ length before) (probe : Probe)
    (opts : Opts) where
  abbrev pub cs : List Channel
  cs = before ++ c ∷ behind

  abbrev pub rs : List Retired
  rs = retirements net run cs check.start (suc d)

  -- the entries of the earlier ones among all, of which its own has this place
  earlier_is : (kind : CheckKind)
      → earlier_of kind (length cs - 1 - check.channel) (past (λ k. kept_in kind net (run k) cs) check.start (suc d))
      ≡ earlier net run before behind c check d last own_channel kind
  earlier_is kind =
      let g = run (check.start + d) in
      let f : Channel → Entry = λ x. kept kind (value_at net g x.valid) (retire_at net g x) in
      let front = reverse (map f behind) in
      let back = reverse (map f before) in
      let rest = past (λ k. kept_in kind net (run k) cs) check.start d in
      let parts : kept_in kind net g cs ≡ front ++ (f c ∷ back) =
      ap reverse (map-append f before (c ∷ behind))
      ∙ reverse-append (map f before) (map f (c ∷ behind))
      ∙ ap (λ es. es ++ back) (reverse-append (f c ∷ []) (map f behind))
      ∙ append_assoc front (f c ∷ []) back in
      let total : length cs ≡ length before + length (c ∷ behind) = length_both before (c ∷ behind) in
      let long : length front ≡ length behind = length-reverse (map f behind) ∙ length-map behind f in
      let one : length (c ∷ behind) ≡ suc (length behind) = refl in
      let many : length cs - 1 - check.channel ≡ length front = omega (arith, long, total, one, own_channel) in
      (λ i. earlier_of kind (many i) (parts i ++ rest))
      ∙ ap (earlier_of kind (length front)) (append_assoc front (f c ∷ back) rest)
      ∙ by front (f c) (back ++ rest) (looks_both_ways kind)
    where
      length_both : (xs ys : List Channel) → length (xs ++ ys) ≡ length xs + length ys
      length_both [] ys = omega arith
      length_both (x ∷ xs) ys = omega (arith, length_both xs ys)

      by : (xs : List Entry) (y : Entry) (ys : List Entry) (b : Bool)
          → (if b then take (length xs) (xs ++ y ∷ ys) ++ drop (length xs + 1) (xs ++ y ∷ ys)
          else drop (length xs + 1) (xs ++ y ∷ ys))
          ≡ (if b then xs ++ ys else ys)
      by xs y ys true = λ i. take_front xs (y ∷ ys) i ++ drop_next xs ys y i
      by xs y ys false = drop_next xs ys y

  own_is : (kind : CheckKind) → LooksBack kind → check.kind ≡ kind → (there : ℕ) (r : Retire)
      → holds_at check rs probe opts r kind
      ≡ holds_over there r (earlier net run before behind c check d last own_channel kind) probe.dmem_addr kind
  own_is kinds.Reg back of_kind there r =
      reg_is net run before behind c check d last own_channel of_kind there r probe opts
  own_is kinds.PcFwd back of_kind there r =
      fwd_is net run before behind c check d last own_channel of_kind there r probe opts
  own_is kinds.PcBwd back of_kind there r =
      bwd_is net run before behind c check d last own_channel of_kind there r probe opts
  own_is kinds.Causal back of_kind there r =
      causal_is net run before behind c check d last own_channel of_kind there r probe opts
  own_is kinds.Dmem back of_kind there r =
      dmem_is net run before behind c check d last own_channel of_kind there r probe opts
  own_is kinds.Insn back of_kind there r = absurd back
  own_is kinds.Ill back of_kind there r = absurd back
  own_is kinds.Unique back of_kind there r = absurd back
  own_is kinds.Liveness back of_kind there r = absurd back
  own_is kinds.Imem back of_kind there r = absurd back

  last_cycle : (kind : CheckKind) → LooksBack kind → cycle_of check kind ≡ check.cycle
  last_cycle kinds.Reg back = refl
  last_cycle kinds.PcFwd back = refl
  last_cycle kinds.PcBwd back = refl
  last_cycle kinds.Causal back = refl
  last_cycle kinds.Dmem back = refl
  last_cycle kinds.Insn back = absurd back
  last_cycle kinds.Ill back = absurd back
  last_cycle kinds.Unique back = absurd back
  last_cycle kinds.Liveness back = absurd back
  last_cycle kinds.Imem back = absurd back

  held : (kind : CheckKind) → LooksBack kind → check.kind ≡ kind
      → where_found (found_at check (cycle_of check kind) rs) (λ r. holds_at check rs probe opts r kind)
      ≡ (if retires net (run check.cycle) c
      then holds_over (value_at net (run check.cycle) c.valid) (retire_at net (run check.cycle) c)
      (earlier_of kind (length cs - 1 - check.channel)
      (past (λ k. kept_in kind net (run k) cs) check.start (suc d)))
      probe.dmem_addr kind
      else true)
  held kind back of_kind =
      let such : Retire → Bool = λ r. holds_at check rs probe opts r kind in
      let g = run check.cycle in
      let r = retire_at net g c in
      ap (λ k. where_found (found_at check k rs) such) (last_cycle kind back)
      ∙ found_is net run before behind c check own_channel check.cycle such check.start (suc d)
      (omega (arith, last)) (omega (arith, last))
      ∙ ap (λ b. if retires net g c then b else true)
      (own_is kind back of_kind (value_at net g c.valid) r
      ∙ ap (λ es. holds_over (value_at net g c.valid) r es probe.dmem_addr kind) (sym (earlier_is kind)))

-- what the property comes to
pub looks_back : (net : Netlist) (run : ℕ → Given) (all : List Channel) (c : Channel) (check : Check) (d : ℕ)
    (probe : Probe) (opts : Opts)
    → IsAmong all check.channel c → check.cycle ≡ check.start + d → LooksBack check.kind
    → property check (retirements net run all check.start (suc d)) probe opts
    ≡ (if retires net (run check.cycle) c
    then holds_over (value_at net (run check.cycle) c.valid) (retire_at net (run check.cycle) c)
    (earlier_of check.kind (length all - 1 - check.channel)
    (past (λ k. kept_in check.kind net (run k) all) check.start (suc d)))
    probe.dmem_addr check.kind
    else true)
looks_back net run all c check d probe opts among last back =
    let P : List Channel → Type 0 = λ xs. property check (retirements net run xs check.start (suc d)) probe opts
    ≡ (if retires net (run check.cycle) c
    then holds_over (value_at net (run check.cycle) c.valid) (retire_at net (run check.cycle) c)
    (earlier_of check.kind (length xs - 1 - check.channel)
    (past (λ k. kept_in check.kind net (run k) xs) check.start (suc d)))
    probe.dmem_addr check.kind
    else true) in
    subst P among.all
    (held net run among.before among.behind c check d last among.many probe opts check.kind back refl)
