-- Lists to which what is ahead is added piece by piece.
use Rattle.std.specs.Prelude.{◌≡◌, List, [], ◌++◌}
use Rattle.std.proofs.Common.{ap, sym, ◌∙◌, append_assoc}
use Rattle.std.proofs.lemmas.List.{append-nil}

-- a piece of what is ahead is added
pub on : {A : Type 0} (now new here rest front whole : List A) → new ≡ now ++ here → front ≡ here ++ rest
    → now ++ front ≡ whole → new ++ rest ≡ whole
on now new here rest front whole h e k =
    ap (λ xs. xs ++ rest) h ∙ append_assoc now here rest ∙ ap (λ xs. now ++ xs) (sym e) ∙ k

-- nothing is ahead
pub ended : {A : Type 0} (now front whole : List A) → front ≡ [] → now ++ front ≡ whole → now ≡ whole
ended now front whole e k = sym (append-nil now) ∙ ap (λ xs. now ++ xs) (sym e) ∙ k

pub nothing : {A : Type 0} (xs : List A) → xs ≡ xs ++ []
nothing xs = sym (append-nil xs)

pub both : {A : Type 0} (old now new xs ys : List A) → now ≡ old ++ xs → new ≡ now ++ ys
    → new ≡ old ++ (xs ++ ys)
both old now new xs ys h k = k ∙ ap (λ zs. zs ++ ys) h ∙ append_assoc old xs ys

pub ruleset ahead = (nothing, both)
