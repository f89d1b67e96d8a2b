-- The numbers of registers come back out of the cells that they make.
use Rattle.std.specs.Prelude.{◌≡◌, refl, ℕ, zero, suc, ◌+◌, ◌<◌, ◌≤◌, ◌^◌, List, [], ◌∷◌, ◌++◌, length, Some, is_none}
use Rattle.std.specs.Prelude.{slice_get, slice_index}
use Rattle.std.proofs.Common.{ap, sym, ◌∙◌, arith, subst, true≢false}
use Rattle.std.proofs.lemmas.Option.{same_Some}
use Rattle.vl_size.specs.Size.{Values}
use Rattle.vl_mean.specs.Parts.{Part}
use Rattle.vl_lower_spec.specs.Maps.{gathered, text_of}
use Rattle.wn_net.specs.declared.names.NetName.{NetName}
use Rattle.vl_lower_cell_laws.specs.Keeps.{IsKeepOf, Kept, registers_of}
use Rattle.vl_lower_cell_laws.proofs.KeepsWhole.{keep_bits}
use Rattle.vl_lower_cell_laws.specs.Listing.{Keeping, cell_registers, named_registers}
use Rattle.vl_lower_cell_laws.specs.Numbers.{word_numbers}
use Rattle.vl_lower_cell_laws.proofs.SourcesLists.{further, named_at, named_many, within}

module _ (ps : List Part) (keep : Keeping) (numbers : List ℕ) (w : ℕ) (some : 1 ≤ w) where
  -- registers from a place on have numbers of their widths
  abbrev pub AreFit : List (Kept × ℕ) → ℕ → Type 0
  AreFit xs r = (j : ℕ) (x : Kept × ℕ) → slice_get xs j ≡ Some x → slice_index numbers (r + j) < 2 ^ x.0.width

  own_fit : (first at r : ℕ) (rest : List (Kept × ℕ))
      → AreFit (named_registers at (registers_of (keep first) w) ++ rest) r → (i : ℕ) (x : Kept)
      → slice_get (registers_of (keep first) w) i ≡ Some x → slice_index numbers (r + i) < 2 ^ x.width
  own_fit first at r rest h i x e =
      h i (x, at) (within (named_registers at (registers_of (keep first) w)) rest i (x, at)
      (named_at at (registers_of (keep first) w) i x e))

  rest_fit : (first at r : ℕ) (rest : List (Kept × ℕ))
      → AreFit (named_registers at (registers_of (keep first) w) ++ rest) r
      → AreFit rest (r + length (registers_of (keep first) w))
  rest_fit first at r rest h j x e =
      let own : List (Kept × ℕ) = named_registers at (registers_of (keep first) w) in
      let many : length own ≡ length (registers_of (keep first) w) = named_many at (registers_of (keep first) w) in
      let same : r + (length own + j) ≡ r + length (registers_of (keep first) w) + j = omega (arith, many) in
      subst (λ k. slice_index numbers k < 2 ^ x.0.width) same (h (length own + j) x (further own rest j ∙ e))

  -- each cell's number has its width
  pub words_small : (first at r : ℕ) (texts : List (List ℕ)) → AreFit (cell_registers keep w first at texts) r
      → ((j : ℕ) (n : List ℕ) → slice_get texts j ≡ Some n → IsKeepOf ps w n (keep (first + j)))
      → (j : ℕ) (n : List ℕ) → slice_get texts j ≡ Some n
      → slice_index (word_numbers keep w numbers first r texts) j < 2 ^ w
  words_small first at r [] fit keeps j n e = absurd (true≢false (ap is_none e))
  words_small first at r (t ∷ ts) fit keeps zero n e =
      let same : first + 0 ≡ first = omega arith in
      let is : IsKeepOf ps w t (keep first) = subst (λ k. IsKeepOf ps w t (keep k)) same (keeps zero t refl) in
      (keep_bits ps w t (keep first) some is).small numbers r
      (own_fit first at r (cell_registers keep w (first + 1) (at + 1) ts) fit)
  words_small first at r (t ∷ ts) fit keeps (suc j) n e =
      words_small (first + 1) (at + 1) (r + length (registers_of (keep first) w)) ts
      (rest_fit first at r (cell_registers keep w (first + 1) (at + 1) ts) fit) (λ j n e.
      let same : first + suc j ≡ first + 1 + j = omega arith in
      subst (λ k. IsKeepOf ps w n (keep k)) same (keeps (suc j) n e)) j n e

  module _ (list : List NetName) (v : Values) where
    abbrev pub back_number : Kept × ℕ → ℕ
    back_number x = gathered (v (text_of (slice_get list x.1))) x.0.bits

    -- each register's number is gathered from the map
    abbrev pub ComeBack : List (Kept × ℕ) → ℕ → Type 0
    ComeBack xs r = (j : ℕ) (x : Kept × ℕ) → slice_get xs j ≡ Some x → back_number x ≡ slice_index numbers (r + j)

    back_named : (at r : ℕ) (xs : List Kept)
        → ((i : ℕ) (x : Kept) → slice_get xs i ≡ Some x → back_number (x, at) ≡ slice_index numbers (r + i))
        → ComeBack (named_registers at xs) r
    back_named at r [] h j x e = absurd (true≢false (ap is_none e))
    back_named at r (y ∷ ys) h zero x e =
        ap back_number (sym (same_Some (y, at) x e)) ∙ h zero y refl
    back_named at r (y ∷ ys) h (suc j) x e =
        let same : r + 1 + j ≡ r + suc j = omega arith in
        back_named at (r + 1) ys (λ i z f.
        let next : r + suc i ≡ r + 1 + i = omega arith in
        h (suc i) z f ∙ ap (slice_index numbers) next) j x e ∙ ap (slice_index numbers) same

    pub back_both : (xs ys : List (Kept × ℕ)) (r : ℕ) → ComeBack xs r → ComeBack ys (r + length xs)
        → ComeBack (xs ++ ys) r
    back_both [] ys r h k j x e =
        let same : r + 0 + j ≡ r + j = omega arith in k j x e ∙ ap (slice_index numbers) same
    back_both (y ∷ xs) ys r h k zero x e = h zero x e
    back_both (y ∷ xs) ys r h k (suc j) x e =
        let same : r + 1 + j ≡ r + suc j = omega arith in
        back_both xs ys (r + 1) (λ i z f.
        let next : r + suc i ≡ r + 1 + i = omega arith in
        h (suc i) z f ∙ ap (slice_index numbers) next) (λ i z f.
        let next : r + suc (length xs) + i ≡ r + 1 + length xs + i = omega arith in
        k i z f ∙ ap (slice_index numbers) next) j x e ∙ ap (slice_index numbers) same

    pub words_back : (first at r : ℕ) (texts : List (List ℕ)) → AreFit (cell_registers keep w first at texts) r
        → ((j : ℕ) (n : List ℕ) → slice_get texts j ≡ Some n → IsKeepOf ps w n (keep (first + j)))
        → ((j : ℕ) (n : List ℕ) → slice_get texts j ≡ Some n → text_of (slice_get list (at + j)) ≡ n)
        → ((j : ℕ) (n : List ℕ) → slice_get texts j ≡ Some n
        → v n ≡ slice_index (word_numbers keep w numbers first r texts) j)
        → ComeBack (cell_registers keep w first at texts) r
    words_back first at r [] fit keeps named has = λ j x e. absurd (true≢false (ap is_none e))
    words_back first at r (t ∷ ts) fit keeps named has =
        let rest : List (Kept × ℕ) = cell_registers keep w (first + 1) (at + 1) ts in
        let own : List (Kept × ℕ) = named_registers at (registers_of (keep first) w) in
        let same : first + 0 ≡ first = omega arith in
        let here : at ≡ at + 0 = omega arith in
        let is : IsKeepOf ps w t (keep first) = subst (λ k. IsKeepOf ps w t (keep k)) same (keeps zero t refl) in
        let text : text_of (slice_get list at) ≡ t =
        ap (λ k. text_of (slice_get list k)) here ∙ named zero t refl in
        let many : r + length (registers_of (keep first) w) ≡ r + length own =
        ap (λ k. r + k) (sym (named_many at (registers_of (keep first) w))) in
        back_both own rest r
        (back_named at r (registers_of (keep first) w) (λ i x e.
        ap (λ n. gathered (v n) x.bits) text ∙ ap (λ k. gathered k x.bits) (has zero t refl)
        ∙ (keep_bits ps w t (keep first) some is).back numbers r (own_fit first at r rest fit) i x e))
        (subst (λ k. ComeBack rest k) many
        (words_back (first + 1) (at + 1) (r + length (registers_of (keep first) w)) ts (rest_fit first at r rest fit)
        (λ j n e.
        let next : first + suc j ≡ first + 1 + j = omega arith in
        subst (λ k. IsKeepOf ps w n (keep k)) next (keeps (suc j) n e))
        (λ j n e.
        let next : at + 1 + j ≡ at + suc j = omega arith in
        ap (λ k. text_of (slice_get list k)) next ∙ named (suc j) n e)
        (λ j n e. has (suc j) n e)))
