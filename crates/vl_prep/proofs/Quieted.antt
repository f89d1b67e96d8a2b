-- The uses that are remembered.
use Rattle.std.proofs.Common.{◌≡◌, ℕ, ◌<◌, List, ◌&&◌, ◌==◌, refl, ap, sym, ◌∙◌, subst, true≢false, arith}
use Rattle.std.specs.Prelude.{Bool, true, false, cond, Option, Some, None, MatchOption, slice_get}
use Rattle.std.specs.Str.{bytes_eq}
use Rattle.std.proofs.lemmas.List.{get_or-replicate, length-replicate}
use Rattle.std.proofs.lemmas.Option.{same_Some, MatchOption-at_some, get_or_from_slice_get, slice_get_within}
use Rattle.std.proofs.Math.ListN.{replicate}
use Rattle.std.proofs.lemmas.Slice.Eq.{bytes_eq-Decides}
use Rattle.std.proofs.lemmas.Bool.Decides.{nat_tests}
use Rattle.std.specs.Arc.{arc_value}
use Rattle.std.specs.declared.sync.Arc.{Arc}
use Rattle.std.specs.declared.alloc.Global.{Global}
use Rattle.fv_text.specs.declared.pos.Pos.{Pos}
use Rattle.fv_text.specs.declared.token.Token.{Token}
use Rattle.vl_prep.specs.declared.quiet.Quiet.{Quiet}
use Rattle.vl_prep.specs.Prep.{Done, expand}
use Rattle.vl_prep.specs.Quiet.{levels_of, flag_of, WasSeen, KeepsPlace, NotesOne, AreQuiet, IsSeen}
use Rattle.vl_prep.specs.Stands.{IsQuietUse, IsQuietNow}

and_parts : (a b : Bool) → (a && b) ≡ true → (a ≡ true) × (b ≡ true)
and_parts true b e = (refl, e)
and_parts false b e = absurd (true≢false (sym e))

nat_same : (m n : ℕ) → (m == n) ≡ true → m ≡ n
nat_same m n e = grind (arith, nat_tests)

-- another place is no matter, since only one place is remembered
at_place : (p q : Pos) (n : ℕ) (text : List Token) (done : Done) → p ≡ q → expand n p text done ≡ done
    → expand n q text done ≡ done
at_place p q n text done e h = subst (λ r. expand n r text done ≡ done) e h

pub kept_is_quiet : (old new : Quiet) (done : Done) (place : Pos) → AreQuiet old done → KeepsPlace old place new
    → AreQuiet new done
kept_is_quiet old new done place are keeps =
    record {
      nothing = λ at other n text p l h.
          (let was = keeps.same other n l in at_place place at n text done (same_Some place at (sym keeps.there ∙ p))
          (are.nothing place other n text was.0 was.1 h));
    }

-- what was found for a use that is remembered
pub found_quiet : (q : Quiet) (done : Done) (name : List ℕ) (place : Pos) (levels : ℕ)
    (found : Option (Arc (List Token) Global)) (arc : Arc (List Token) Global) →
    AreQuiet q done → IsSeen q name place levels → found ≡ Some arc
    → MatchOption found (done.macros name ≡ None) (λ text. done.macros name ≡ Some (arc_value text)) →
    IsQuietNow name place levels done
found_quiet q done name place levels found arc are seen f m =
    let held : done.macros name ≡ Some (arc_value arc) = MatchOption-at_some (done.macros name ≡ None)
    (λ text. done.macros name ≡ Some (arc_value text)) arc f m in
    record {
      text = arc_value arc;
      held = held;
      nothing = are.nothing place name levels (arc_value arc) seen.0 seen.1 held;
    }

-- with one more level at a name, the others were seen before
pub seen_before : (q : Quiet) (name other : List ℕ) (level n : ℕ) (seen more : List Bool) (new : Option (List Bool))
    → new ≡ cond (bytes_eq name other) (Some more) (levels_of q other) →
    ((m : ℕ) → slice_get seen m ≡ Some true → WasSeen q name m)
    → ((m : ℕ) → (level == m) ≡ false → slice_get more m ≡ Some true → slice_get seen m ≡ Some true) →
    (bytes_eq name other && level == n) ≡ false → flag_of new n ≡ Some true → WasSeen q other n
seen_before q name other level n seen more new e was others d f = by (bytes_eq name other) refl
  where
    by : (b : Bool) → bytes_eq name other ≡ b → WasSeen q other n
    by true x =
        subst (λ l. WasSeen q l n) ((bytes_eq-Decides name other).0 x)
        (was n (others n (sym (ap (λ b. b && level == n) x) ∙ d)
        (sym (ap (λ o. flag_of o n) (e ∙ ap (λ b. cond b (Some more) (levels_of q other)) x)) ∙ f)))
    by false x = sym (ap (λ o. flag_of o n) (e ∙ ap (λ b. cond b (Some more) (levels_of q other)) x)) ∙ f

pub nothing_seen : (n : ℕ) → slice_get (replicate 33 false) n ≡ Some true → ⊥
nothing_seen n h =
    true≢false (sym (get_or_from_slice_get (replicate 33 false) n true false h)
    ∙ get_or-replicate 33 n false false (subst (λ l. n < l) (length-replicate 33 false)
    (slice_get_within (replicate 33 false) n true h)))

pub noted_is_quiet : (old new : Quiet) (done : Done) (name : List ℕ) (place : Pos) (levels : ℕ) → AreQuiet old done
    → NotesOne old name place levels new → IsQuietUse name place levels done → AreQuiet new done
noted_is_quiet old new done name place levels are notes uses =
    record { nothing = λ at other n text p l h. by at other n text p l h (bytes_eq name other && levels == n) refl }
  where
    by : (at : Pos) (other : List ℕ) (n : ℕ) (text : List Token) → new.place ≡ Some at → WasSeen new other n
        → done.macros other ≡ Some text → (b : Bool) → (bytes_eq name other && levels == n) ≡ b
        → expand n at text done ≡ done
    by at other n text p l h true e =
        let parts = and_parts (bytes_eq name other) (levels == n) e in
        subst (λ m. expand m at text done ≡ done) (nat_same levels n parts.1)
        (at_place place at levels text done (same_Some place at (sym notes.there ∙ p))
        (uses text (ap done.macros ((bytes_eq-Decides name other).0 parts.0) ∙ h)))
    by at other n text p l h false e =
        let was = notes.same other n e l in
        at_place place at n text done (same_Some place at (sym notes.there ∙ p))
        (are.nothing place other n text was.0 was.1 h)
