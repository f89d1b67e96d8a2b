-- The conditionals that are open at the end of a text, one by one.
use Rattle.std.proofs.Common.{◌≡◌, ℕ, ◌<◌, List, [], ◌∷◌, length, refl, ap, sym, ◌∙◌, arith}
use Rattle.std.proofs.lemmas.Option.{same_Some, none-some}
use Rattle.std.specs.Prelude.{Option, Some, None}
use Rattle.fv_text.specs.declared.pos.Pos.{Pos}
use Rattle.vl_prep.specs.declared.opens.Open.{Open}
use Rattle.vl_prep.specs.declared.refusal.Cause.TheVariants as cause
use Rattle.vl_prep.specs.Opens.{closed, innermost_place}
use Rattle.vl_prep.specs.Prep.{Done, refused, all_refused}

pub one_less : (os : List Open) (p : Pos) → innermost_place os ≡ Some p → length (closed os) < length os
one_less [] p e = absurd (none-some p e)
one_less (o ∷ os) p e = omega arith

pub one_refused : (os : List Open) (p : Pos) (done : Done) → innermost_place os ≡ Some p
    → all_refused (closed os) (refused p cause.UnbalancedIf done) ≡ all_refused os done
one_refused [] p done e = absurd (none-some p e)
one_refused (o ∷ os) p done e =
    ap (λ q. all_refused os (refused q cause.UnbalancedIf done)) (sym (same_Some o.place p e))

pub none_refused : (os : List Open) (done : Done) → innermost_place os ≡ None → all_refused os done ≡ done
none_refused [] done e = refl
none_refused (o ∷ os) done e = absurd (none-some o.place (sym e))
