-- The first `*/` of a text.
use Rattle.std.proofs.Common.{◌≡◌, ℕ, ◌-◌, true, false, ◌&&◌, ◌==◌, List, [], ◌∷◌, ◌++◌, Option, Some, None, length}
use Rattle.std.proofs.Common.{take, drop, refl, ap, sym, ◌∙◌, subst, arith, length-append, append_assoc, append-nil}
use Rattle.std.proofs.Math.Seq.{take-append_seam}
use Rattle.vl_token.specs.Bytes.{first_is}
use Rattle.vl_token.specs.Cut.{close_of, more_inside}

abbrev pub further : List ℕ → Option (List ℕ × List ℕ) → Option (List ℕ × List ℕ)
further before None = None
further before (Some x) = Some (before ++ x.0, x.1)

-- how far the search has come
pub record ClosesOn (bytes rest : List ℕ) : Type 0 where
  pub before : List ℕ
  pub same : before ++ rest ≡ bytes
  pub close : further before (close_of rest) ≡ close_of bytes

further_more : (before : List ℕ) (b : ℕ) (o : Option (List ℕ × List ℕ))
    → further (before ++ (b ∷ [])) o ≡ further before (more_inside b o)
further_more before b None = refl
further_more before b (Some x) =
    let e : (before ++ (b ∷ [])) ++ x.0 ≡ before ++ (b ∷ x.0) = append_assoc before (b ∷ []) x.0 in rw e refl

pub closes_on : (bytes rest bs : List ℕ) (b : ℕ) → rest ≡ b ∷ bs → (b == 42 && first_is (λ c. c == 47) bs) ≡ false
    → ClosesOn bytes rest → ClosesOn bytes bs
closes_on bytes rest bs b e test on =
    let here : close_of rest ≡ more_inside b (close_of bs) = rw (e, test) refl in
    let moved : (on.before ++ (b ∷ [])) ++ bs ≡ on.before ++ rest = append_assoc on.before (b ∷ []) bs
    ∙ ap (λ zs. on.before ++ zs) (sym e) in
    record {
      before = on.before ++ (b ∷ []);
      same = moved ∙ on.same;
      close = further_more on.before b (close_of bs) ∙ (ap (λ o. further on.before o) (sym here) ∙ on.close);
    }
