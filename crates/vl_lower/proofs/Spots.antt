-- Spots of a cell's registers.
use Rattle.std.specs.Prelude.{◌≡◌, refl, ℕ, zero, suc, ◌+◌, ◌<◌, ◌%◌, ◌≤◌, ◌^◌, ◌==◌, List, [], ◌∷◌, ◌++◌, length, map}
use Rattle.std.specs.Prelude.{Bool, true, false, ◌&&◌, if◌then◌else◌, drop, replicate}
use Rattle.std.specs.List.{AllByRecursion}
use Rattle.std.proofs.Common.{ap, append-nil, append_assoc, arith, subst, sym, ◌∙◌}
use Rattle.std.proofs.lemmas.List.{map-append}
use Rattle.std.proofs.lemmas.Nat.{mod_below, pow_pos}
use Rattle.wn_net.specs.declared.names.Spot.{Spot}
use Rattle.wn_net.specs.declared.parts.Init.{Init}
use Rattle.wn_net.specs.declared.parts.Init.TheVariants as init
use Rattle.wn_net.specs.Net.{IsInitOf}
use Rattle.vl_lower_cell_laws.specs.declared.keep.Keep.{Keep}
use Rattle.vl_lower_cell_laws.specs.Keeps.{Kept, has_bit, is_whole, kept_bit, kept_bits, registers_of, whole_kept}
use Rattle.vl_lower.specs.Held.{bit_registers}
use Rattle.vl_lower.proofs.Bits.{bits_more}
use Rattle.vl_lower_cell_laws.specs.Listing.{Keeping, named_registers, register_spot, word_starts}
use Rattle.vl_lower.specs.Design.{are_whole}
use Rattle.vl_lower.proofs.Lists.{drop_at, drop_none}

abbrev pub spots_of : ℕ → List Kept → List Spot
spots_of name xs = map register_spot (named_registers name xs)

named_both : (at : ℕ) (xs ys : List Kept)
    → named_registers at (xs ++ ys) ≡ named_registers at xs ++ named_registers at ys
named_both at [] ys = refl
named_both at (x ∷ xs) ys = ap (λ zs. (x, at) ∷ zs) (named_both at xs ys)

-- those of the bits below are left
pub record AreLeft (old new : List Spot) (keep : Keep) (width left name : ℕ) : Type 0 where
  pub within : left ≤ width
  pub spots : new ++ spots_of name (kept_bits keep left) ≡ old ++ spots_of name (kept_bits keep width)

pub left_first : (old : List Spot) (keep : Keep) (width name : ℕ) → AreLeft old old keep width width name
left_first old keep width name = record { within = omega arith; spots = refl }

pub left_more : (old mid new : List Spot) (keep : Keep) (width left k name : ℕ) → left ≡ suc k
    → AreLeft old mid keep width left name → new ≡ mid ++ spots_of name (bit_registers keep k)
    → AreLeft old new keep width k name
left_more old mid new keep width left k name e h more =
    let s : AreLeft old mid keep width (suc k) name = subst (λ m. AreLeft old mid keep width m name) e h in
    record {
      within = omega (arith, s.within);
      spots =
          ap (λ zs. zs ++ spots_of name (kept_bits keep k)) more
          ∙ append_assoc mid (spots_of name (bit_registers keep k)) (spots_of name (kept_bits keep k))
          ∙ ap (λ zs. mid ++ zs) (sym (map-append register_spot (named_registers name (bit_registers keep k))
          (named_registers name (kept_bits keep k)))
          ∙ ap (map register_spot) (sym (named_both name (bit_registers keep k) (kept_bits keep k)))
          ∙ ap (spots_of name) (sym (bits_more keep k)))
          ∙ s.spots;
    }

pub left_none : (old new : List Spot) (keep : Keep) (width left name : ℕ) → left ≡ 0
    → AreLeft old new keep width left name → new ≡ old ++ spots_of name (kept_bits keep width)
left_none old new keep width left name e h =
    let s : AreLeft old new keep width 0 name = subst (λ m. AreLeft old new keep width m name) e h in
    sym (append-nil new) ∙ s.spots

pub spots_driven : (keep : Keep) (k name : ℕ) → has_bit keep.driven k ≡ true → spots_of name (bit_registers keep k) ≡ []
spots_driven keep k name e = ap (λ (b : Bool). spots_of name (if b then [] else kept_bit keep k ∷ [])) e

pub spots_kept : (keep : Keep) (k name : ℕ) → has_bit keep.driven k ≡ false
    → spots_of name (bit_registers keep k) ≡ record { name = name; bits = k ∷ [] } ∷ []
spots_kept keep k name e = ap (λ (b : Bool). spots_of name (if b then [] else kept_bit keep k ∷ [])) e

pub spots_whole : (keep : Keep) (width name : ℕ) → is_whole keep width ≡ true
    → spots_of name (registers_of keep width) ≡ register_spot (whole_kept keep width, name) ∷ []
spots_whole keep width name e =
    ap (λ (b : Bool). spots_of name (if b then whole_kept keep width ∷ [] else kept_bits keep width)) e

pub spots_apart : (keep : Keep) (width name : ℕ) → is_whole keep width ≡ false
    → spots_of name (registers_of keep width) ≡ spots_of name (kept_bits keep width)
spots_apart keep width name e =
    ap (λ (b : Bool). spots_of name (if b then whole_kept keep width ∷ [] else kept_bits keep width)) e

pub replicate_more : (k n : ℕ) → replicate k n ++ n ∷ [] ≡ replicate (suc k) n
replicate_more zero n = refl
replicate_more (suc k) n = ap (λ xs. n ∷ xs) (replicate_more k n)

-- ---- words of a memory

pub whole_more : (keep : Keeping) (w first k : ℕ) (texts : List (List ℕ)) → k < length texts
    → are_whole keep w (first + k) (drop k texts)
    ≡ (if is_whole (keep (first + k)) w then are_whole keep w (first + (k + 1)) (drop (k + 1) texts) else false)
whole_more keep w first k texts less =
    let r = drop_at texts k less in
    let next : first + k + 1 ≡ first + (k + 1) = omega arith in
    ap (are_whole keep w (first + k)) r.1
    ∙ by (is_whole (keep (first + k)) w) (are_whole keep w (first + k + 1) (drop (k + 1) texts))
    ∙ ap (λ f. if is_whole (keep (first + k)) w then are_whole keep w f (drop (k + 1) texts) else false) next
  where
    by : (a b : Bool) → (a && b) ≡ (if a then b else false)
    by true b = refl
    by false b = refl

pub starts_more : (keep : Keeping) (w first k : ℕ) (texts : List (List ℕ)) (xs ys : List Init) → k < length texts
    → ys ≡ xs ++ (whole_kept (keep (first + k)) w).init ∷ []
    → ys ++ word_starts keep w (first + (k + 1)) (drop (k + 1) texts)
    ≡ xs ++ word_starts keep w (first + k) (drop k texts)
starts_more keep w first k texts xs ys less e =
    let r = drop_at texts k less in
    let next : first + (k + 1) ≡ first + k + 1 = omega arith in
    let rest : List Init = word_starts keep w (first + k + 1) (drop (k + 1) texts) in
    (λ i. e i ++ word_starts keep w (next i) (drop (k + 1) texts))
    ∙ append_assoc xs ((whole_kept (keep (first + k)) w).init ∷ []) rest
    ∙ ap (λ ts. xs ++ word_starts keep w (first + k) ts) (sym r.1)

pub starts_end : (keep : Keeping) (w first k : ℕ) (texts : List (List ℕ)) (xs whole : List Init) → length texts ≡ k
    → xs ++ word_starts keep w (first + k) (drop k texts) ≡ whole → xs ≡ whole
starts_end keep w first k texts xs whole e h =
    sym (append-nil xs) ∙ ap (λ ts. xs ++ word_starts keep w (first + k) ts) (sym (drop_none texts k e)) ∙ h

pub starts_many : (keep : Keeping) (w first : ℕ) (texts : List (List ℕ))
    → length (word_starts keep w first texts) ≡ length texts
starts_many keep w first [] = refl
starts_many keep w first (t ∷ ts) = ap suc (starts_many keep w (first + 1) ts)

pub starts_fit : (keep : Keeping) (w first : ℕ) (texts : List (List ℕ))
    → AllByRecursion (IsInitOf w) (word_starts keep w first texts)
starts_fit keep w first [] = tt
starts_fit keep w first (t ∷ ts) = (by ((keep first).known % 2 ^ w == 0), starts_fit keep w (first + 1) ts)
  where
    by : (b : Bool) → IsInitOf w (if b then init.Free else init.Known ((keep first).value % 2 ^ w))
    by true = tt
    by false = mod_below (keep first).value (2 ^ w) (pow_pos w)

pub none_both : (b : Bool) → (b && false) ≡ false
none_both true = refl
none_both false = refl
