-- A loop without a last turn, and the bits of a memory.
use Rattle.std.specs.Prelude.{◌≡◌, refl, ℕ, zero, suc, ◌+◌, ◌*◌, ℤ, pos, int_le, List, [], ◌∷◌, length, Bool, codes}
use Rattle.std.specs.Prelude.{if◌then◌else◌, ◌+ℤ◌, ◌-ℤ◌}
use Rattle.std.proofs.Common.{arith}
use Rattle.fv_text.specs.declared.pos.Pos.{Pos}
use Rattle.vl_size.specs.Table.{span}
use Rattle.vl_mean.specs.declared.const_number.Const.{Const}
use Rattle.vl_mean.specs.Cells.{words_from}
use Rattle.vl_mean.specs.Parts.{Part}
use Rattle.vl_mean.specs.Walk.{Place, next_turn, first_turn}
use Rattle.vl_elab_spec.specs.declared.elab_fault.ElabFault.TheVariants as f
use Rattle.vl_elab_spec.specs.Items.{head_refusals, turns_refusals}
use Rattle.vl_elab_spec.specs.Meanings.{loop_variable}
use Rattle.vl_elab_spec.specs.Refused.{kept_bits, all_kept_bits, state_bits}
use Rattle.vl_mean_examples.specs.RefusedDesigns.{endless_head, memory_part}

endless-turns : (n : ℕ) (at : Place) (p : Pos) (c : Const) → turns_refusals n endless_head at p c ≡ f.GenLoop p ∷ []
endless-turns zero at p c = refl
endless-turns (suc n) at p c = endless-turns n at p (next_turn endless_head at.scopes c)

pub endless_loop : (at : Place) (p : Pos) → head_refusals at p endless_head loop_variable ≡ f.GenLoop p ∷ []
endless_loop at p = endless-turns 4096 at p (first_turn endless_head at.scopes)

-- ---- bits

module _ (left right : ℤ) where
  abbrev parts : List Part
  parts = memory_part left right ∷ []

  kept : (text : List ℕ) (k : ℕ) → kept_bits parts text k ≡ k
  kept text zero = refl
  kept text (suc k) = let h : kept_bits parts text k ≡ k = kept text k in omega arith

  all-kept : (texts : List (List ℕ)) → all_kept_bits parts 128 texts ≡ 128 * length texts
  all-kept [] = refl
  all-kept (text ∷ texts) =
      let h : all_kept_bits parts 128 texts ≡ 128 * length texts = all-kept texts in
      let k : kept_bits parts text 128 ≡ 128 = kept text 128 in omega arith

words-length : (memory : List ℕ) (n : ℕ) (up : Bool) (i : ℤ) → length (words_from memory n up i) ≡ n
words-length memory zero up i = refl
words-length memory (suc n) up i =
    let h : length (words_from memory n up (if up then i +ℤ pos 1 else i -ℤ pos 1)) ≡ n
    = words-length memory n up (if up then i +ℤ pos 1 else i -ℤ pos 1) in omega arith

pub memory_bits : (left right : ℤ)
    → state_bits (memory_part left right ∷ []) (memory_part left right ∷ []) ≡ 128 * span left right
memory_bits left right =
    let texts : List (List ℕ) = words_from (codes "m") (span left right) (int_le left right) left in
    let h : all_kept_bits (parts left right) 128 texts ≡ 128 * length texts = all-kept left right texts in
    let k : length texts ≡ span left right = words-length (codes "m") (span left right) (int_le left right) left in
    let e : state_bits (parts left right) (parts left right) ≡ all_kept_bits (parts left right) 128 texts + 0 = refl in
    omega arith
