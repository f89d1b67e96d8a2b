-- What was built is the net anew.
use Rattle.std.specs.Prelude.{◌≡◌, refl, ℕ, ◌+◌, List, [], ◌∷◌, ◌++◌, length, map}
use Rattle.std.specs.Prelude.{slice_index}
use Rattle.std.proofs.Common.{ap, sym, ◌∙◌, arith}
use Rattle.std.proofs.lemmas.List.{append-nil, take_all, drop_all}
use Rattle.wn_net.specs.declared.parts.Reg.{Reg}
use Rattle.wn_net.specs.declared.parts.Mem.{Mem}
use Rattle.wn_net.specs.declared.parts.MemWrite.{MemWrite}
use Rattle.wn_net.specs.Value.{Given}
use Rattle.wn_net.specs.Net.{Netlist, IsNet, shape_of, values_of, value_at}
use Rattle.wn_net.specs.Next.{written, write_each, next_mems}
use Rattle.bm_induct.specs.declared.how.Rebuild.{Rebuild}
use Rattle.bm_induct.specs.declared.how.Rebuild.TheVariants.{Waived, Freed}
use Rattle.bm_induct.specs.Rebuilt.{IsRebuilt, assumed_for, moved_id, offset, seen, start_for}
use Rattle.bm_induct.specs.Stages.{Stand, begun_mem, begun_regs, moved, moved_mem, moved_reg, moved_write}
use Rattle.bm_induct.specs.Stages.{with_assumes, with_mem_writes}
use Rattle.bm_induct.proofs.Items.{behind}
use Rattle.bm_induct.proofs.Leads.{lead_nodes, lead_values, long_values}
use Rattle.bm_induct.proofs.Sweeps.{all_values}

-- ---- parts of registers and memories

same_reg_widths : (how : Rebuild) (net : Netlist) (rs : List Reg)
    → map (λ r. r.width) (map (moved_reg how net) rs) ≡ map (λ r. r.width) rs
same_reg_widths how net [] = refl
same_reg_widths how net (r ∷ rs) = ap (λ us. r.width ∷ us) (same_reg_widths how net rs)

same_reg_starts : (how : Rebuild) (net : Netlist) (rs : List Reg)
    → map (λ r. r.init) (map (moved_reg how net) rs) ≡ map (λ r. start_for how r.init) rs
same_reg_starts how net [] = refl
same_reg_starts how net (r ∷ rs) = ap (λ us. start_for how r.init ∷ us) (same_reg_starts how net rs)

same_mem_widths : (how : Rebuild) (net : Netlist) (ms : List Mem)
    → map (λ m. m.width) (map (moved_mem how net) ms) ≡ map (λ m. m.width) ms
same_mem_widths how net [] = refl
same_mem_widths how net (m ∷ ms) = ap (λ us. m.width ∷ us) (same_mem_widths how net ms)

same_mem_words : (how : Rebuild) (net : Netlist) (ms : List Mem)
    → map (λ m. m.words) (map (moved_mem how net) ms) ≡ map (λ m. m.words) ms
same_mem_words how net [] = refl
same_mem_words how net (m ∷ ms) = ap (λ us. m.words ∷ us) (same_mem_words how net ms)

same_mem_starts : (how : Rebuild) (net : Netlist) (ms : List Mem)
    → map (λ m. m.init) (map (moved_mem how net) ms) ≡ map (λ m. map (start_for how) m.init) ms
same_mem_starts how net [] = refl
same_mem_starts how net (m ∷ ms) = ap (λ us. map (start_for how) m.init ∷ us) (same_mem_starts how net ms)

-- ---- the next state

next_regs : (how : Rebuild) (net : Netlist) (lv vs : List ℕ) (rs : List Reg) → length lv ≡ offset net
    → map (λ r. slice_index (lv ++ vs) r.next) (map (moved_reg how net) rs) ≡ map (λ r. slice_index vs r.next) rs
next_regs how net lv vs [] long = refl
next_regs how net lv vs (r ∷ rs) long = λ j.
    behind lv vs (offset net) r.next long j ∷ next_regs how net lv vs rs long j

next_writes : (net : Netlist) (lv vs : List ℕ) (w : ℕ) (ws : List MemWrite) (words : List ℕ)
    → length lv ≡ offset net
    → write_each (lv ++ vs) w words (map (moved_write net) ws) ≡ write_each vs w words ws
next_writes net lv vs w [] words long = refl
next_writes net lv vs w (x ∷ xs) words long =
    ap (λ us. write_each (lv ++ vs) w us (map (moved_write net) xs))
    (λ j. written w words (behind lv vs (offset net) x.enable long j) (behind lv vs (offset net) x.addr long j)
    (behind lv vs (offset net) x.mask long j) (behind lv vs (offset net) x.value long j))
    ∙ next_writes net lv vs w xs
    (written w words (slice_index vs x.enable) (slice_index vs x.addr) (slice_index vs x.mask) (slice_index vs x.value))
    long

next_words : (how : Rebuild) (net : Netlist) (lv vs : List ℕ) (ms : List Mem) (words : List (List ℕ))
    → length lv ≡ offset net
    → next_mems (lv ++ vs) (map (moved_mem how net) ms) words ≡ next_mems vs ms words
next_words how net lv vs [] words long = refl
next_words how net lv vs (m ∷ ms) [] long = refl
next_words how net lv vs (m ∷ ms) (ns ∷ rest) long = λ j.
    next_writes net lv vs m.width m.writes ns long j ∷ next_words how net lv vs ms rest long j

-- ---- all of it

pub is_rebuilt : (how : Rebuild) (net made : Netlist) → IsNet net
    → made.nodes ≡ lead_nodes net ++ map (moved how net) net.nodes
    → made.regs ≡ map (moved_reg how net) net.regs → made.mems ≡ map (moved_mem how net) net.mems
    → made.inputs ≡ net.inputs → made.assumes ≡ assumed_for how net → Stand net made → IsRebuilt how net made
unfolding value_at
is_rebuilt how net made whole nodes regs mems inputs assumes stand =
    let reg_widths : map (λ r. r.width) made.regs ≡ map (λ r. r.width) net.regs =
    ap (map (λ (r : Reg). r.width)) regs ∙ same_reg_widths how net net.regs in
    let mem_widths : map (λ m. m.width) made.mems ≡ map (λ m. m.width) net.mems =
    ap (map (λ (m : Mem). m.width)) mems ∙ same_mem_widths how net net.mems in
    let shape : shape_of made ≡ shape_of net = λ j. record {
      inputs = map (λ x. x.width) (inputs j);
      regs = reg_widths j;
      mems = mem_widths j;
    } in
    let values : (g : Given) → values_of made g ≡ lead_values net g ++ values_of net (seen how net g) =
    λ g. all_values how net made g net.nodes shape nodes whole.nodes in
    record {
      inputs = inputs;
      assumes = assumes;
      reg_widths = reg_widths;
      reg_starts = ap (map (λ (r : Reg). r.init)) regs ∙ same_reg_starts how net net.regs;
      mem_widths = mem_widths;
      mem_words = ap (map (λ (m : Mem). m.words)) mems ∙ same_mem_words how net net.mems;
      mem_starts = ap (map (λ (m : Mem). m.init)) mems ∙ same_mem_starts how net net.mems;
      there = stand;
      value = λ g id own.
          ap (λ us. slice_index us (moved_id net id)) (values g)
          ∙ behind (lead_values net g) (values_of net (seen how net g)) (offset net) id (long_values net g);
      next = λ g.
          let lv = lead_values net g in
          let vs = values_of net (seen how net g) in
          λ j. record {
            regs =
                ((λ k. map (λ (r : Reg). slice_index (values g k) r.next) (regs k))
                ∙ next_regs how net lv vs net.regs (long_values net g)) j;
            mems =
                ((λ k. next_mems (values g k) (mems k) g.state.mems)
                ∙ next_words how net lv vs net.mems g.state.mems (long_values net g)) j;
          };
    }

-- with all memories' writes, all else is there
all_parts : (how : Rebuild) (net : Netlist) → IsNet net
    → (with_mem_writes how net (length net.mems)).regs ≡ map (moved_reg how net) net.regs
all_parts how net whole =
    (λ j. map (moved_reg how net) (take_all (length net.regs) net.regs (omega arith) j)
    ++ begun_regs how (length net.inputs + length net.regs) (drop_all (length net.regs) net.regs (omega arith) j))
    ∙ append-nil (map (moved_reg how net) net.regs)

all_mems : (how : Rebuild) (net : Netlist)
    → (with_mem_writes how net (length net.mems)).mems ≡ map (moved_mem how net) net.mems
all_mems how net =
    (λ j. map (moved_mem how net) (take_all (length net.mems) net.mems (omega arith) j)
    ++ map (begun_mem how) (drop_all (length net.mems) net.mems (omega arith) j))
    ∙ append-nil (map (moved_mem how net) net.mems)

all_nodes : (how : Rebuild) (net : Netlist)
    → (with_mem_writes how net (length net.mems)).nodes ≡ lead_nodes net ++ map (moved how net) net.nodes
all_nodes how net = ap (λ xs. lead_nodes net ++ map (moved how net) xs)
    (take_all (length net.nodes) net.nodes (omega arith))

pub waived_is : (how : Rebuild) (net made : Netlist) → IsNet net → how ≡ Waived
    → made ≡ with_mem_writes how net (length net.mems) → Stand net made → IsRebuilt how net made
waived_is how net made whole e is stand =
    is_rebuilt how net made whole (ap (λ m. m.nodes) is ∙ all_nodes how net)
    (ap (λ m. m.regs) is ∙ all_parts how net whole) (ap (λ m. m.mems) is ∙ all_mems how net)
    (ap (λ m. m.inputs) is) (ap (λ m. m.assumes) is ∙ sym (ap (λ h. assumed_for h net) e)) stand

pub freed_is : (how : Rebuild) (net made : Netlist) → IsNet net → how ≡ Freed
    → made ≡ with_assumes how net (length net.assumes) → Stand net made → IsRebuilt how net made
freed_is how net made whole e is stand =
    is_rebuilt how net made whole (ap (λ m. m.nodes) is ∙ all_nodes how net)
    (ap (λ m. m.regs) is ∙ all_parts how net whole) (ap (λ m. m.mems) is ∙ all_mems how net)
    (ap (λ m. m.inputs) is)
    (ap (λ m. m.assumes) is ∙ ap (map (moved_id net)) (take_all (length net.assumes) net.assumes (omega arith))
    ∙ sym (ap (λ h. assumed_for h net) e)) stand
