-- Lists that begin with others.
use Rattle.std.specs.Prelude.{◌≡◌, refl, ℕ, zero, suc, ◌<◌, ◌≤◌, List, [], ◌∷◌, ◌++◌, length, take, map, slice_index}
use Rattle.std.proofs.Common.{ap, sym, ◌∙◌, arith, subst}
use Rattle.std.proofs.lemmas.List.{take-take, take_all, take_at, length-take, length-map, map_push, take-map}
use Rattle.wn_net.specs.Net.{Netlist}
use Rattle.wn_net.specs.Changes.{IsBegun, Keeps, Grows}

pub begun_self : {A : Type 0} (xs : List A) → IsBegun xs xs
begun_self xs = take_all (length xs) xs (omega arith)

pub begun_more : {A : Type 0} (xs ys : List A) → IsBegun xs (xs ++ ys)
begun_more xs ys = take_at xs ys (length xs) refl

pub begun_same : {A : Type 0} (xs ys : List A) → ys ≡ xs → IsBegun xs ys
begun_same {A} xs ys e = let P : List A → Type 0 = λ zs. IsBegun xs zs in subst P (sym e) (begun_self xs)

pub begun_push : {A : Type 0} (f : A → ℕ) (xs : List A) (x : A) → IsBegun (map f xs) (map f (xs ++ x ∷ []))
begun_push f xs x =
    let P : List ℕ → Type 0 = λ zs. IsBegun (map f xs) zs
    in subst P (sym (map_push f xs x)) (begun_more (map f xs) (f x ∷ []))

pub longer_begun : {A : Type 0} (xs ys : List A) → IsBegun xs ys → length xs ≤ length ys
longer_begun xs ys h = omega (arith, length-take (length xs) ys, ap length h)

pub begun_on : {A : Type 0} (xs ys zs : List A) → IsBegun xs ys → IsBegun ys zs → IsBegun xs zs
begun_on xs ys zs h k =
    sym (take-take (length xs) (length ys) zs (longer_begun xs ys h)) ∙ ap (take (length xs)) k ∙ h

pub begun_map : {A B : Type 0} (f : A → B) (xs ys : List A) → IsBegun xs ys → IsBegun (map f xs) (map f ys)
begun_map f xs ys h =
    ap (λ k. take k (map f ys)) (length-map xs f) ∙ take-map f (length xs) ys ∙ ap (map f) h

-- the number at a place
pub begun_at : (xs ys : List ℕ) (i : ℕ) → IsBegun xs ys → i < length xs → slice_index ys i ≡ slice_index xs i
begun_at [] ys i h below = absurd (omega arith)
begun_at (x ∷ xs) [] i h below = absurd (omega (arith, longer_begun (x ∷ xs) [] h))
begun_at (x ∷ xs) (y ∷ ys) zero h below = ap (λ zs. slice_index zs 0) h
begun_at (x ∷ xs) (y ∷ ys) (suc i) h below = begun_at xs ys i (tail h) (omega arith)
  where
    tail : (y ∷ take (length xs) ys) ≡ (x ∷ xs) → take (length xs) ys ≡ xs
    tail e = cc

-- a net that is left as it is
pub keeps_none : (net : Netlist) → Keeps net net
keeps_none net =
    record { longer = omega arith; widths = λ id below. refl; values = λ g id below. refl; given = λ g h. h }

pub grows_none : (net : Netlist) → Grows net net
grows_none net = record {
  nodes = begun_self net.nodes;
  inputs = begun_self net.inputs;
  assumes = begun_self net.assumes;
  reg_widths = begun_self (map (λ r. r.width) net.regs);
  reg_starts = begun_self (map (λ r. r.init) net.regs);
  mem_widths = begun_self (map (λ m. m.width) net.mems);
  mem_words = begun_self (map (λ m. m.words) net.mems);
  mem_starts = begun_self (map (λ m. m.init) net.mems);
  widths = λ id below. refl;
  values = λ g id below. refl;
}

pub ruleset unchanged = (keeps_none, grows_none)
