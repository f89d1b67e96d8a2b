-- The preprocessor's faults and the parser's are at tokens.
use Rattle.std.proofs.Common.{◌≡◌, ◌⊎◌, inl, inr, ℕ, zero, suc, ◌-◌, ◌≤◌, List, [], ◌∷◌, ◌++◌, length, refl, sym}
use Rattle.std.proofs.Common.{subst, arith}
use Rattle.std.proofs.lemmas.List.Elements.{All-nil}
use Rattle.std.proofs.lemmas.Option.{slice_get_cases, slice_get_within, get_or_from_slice_get}
use Rattle.std.specs.List.{Contains, slice_get}
use Rattle.std.specs.Prelude.{Option, Some, None, IfSome}
use Rattle.fv_text.specs.declared.kind.Kind.{Kind}
use Rattle.fv_text.specs.declared.pos.Pos.{Pos}
use Rattle.fv_text.specs.declared.token.Token.{Token}
use Rattle.vl_prep.specs.Places.{places, IsPlacedFault}
use Rattle.vl_prep.specs.declared.fault.PrepFault.{PrepFault}
use Rattle.vl_prep.specs.declared.fault.PrepFault.TheVariants as prep
use Rattle.vl_tree.specs.WellFormed.{IsModule}
use Rattle.vl_parse_grammar.specs.Depth.{IsTooDeep}
use Rattle.vl_parse_grammar.specs.Text.{IsText, IsFaulty}
use Rattle.vl_parse.specs.Faults as parser
use Rattle.vl_parse.specs.Faults.{token_at, place_at, named_at, wrong_at, outside_word}
use Rattle.vl_parse.specs.Refusals.{IsOfFaulty, IsOfTooDeep, IsFaultOf}
use Rattle.vl_parse.specs.declared.fault.ParseFault.{ParseFault}
use Rattle.vl_parse.specs.declared.fault.ParseFault.TheVariants as parse
use Rattle.vl_text.specs.Faults.{of_prep, of_parse}
use Rattle.vl_text.specs.Places.{parse_place, IsAtToken}
use Rattle.vl_text.specs.declared.fault.TextFault.TheVariants.{Parse}
use Rattle.vl_text.proofs.Standing.{own_places}

pub prep_at : (ts : List Token) (fault : PrepFault) → IsPlacedFault ts fault → IsAtToken ts (of_prep fault)
prep_at ts (prep.UnknownMacro name at) h = h
prep_at ts (prep.UnbalancedIf at) h = h
prep_at ts (prep.MacroArgs at) h = h
prep_at ts (prep.MacroDepth at) h = h
prep_at ts (prep.Include at) h = h
prep_at ts (prep.TooManyTokens at) h = h
prep_at ts (prep.NoName at) h = h
prep_at ts prep.Memory h = tt

-- no tokens are a text, so they have no faulty one
empty_text : IsText []
empty_text = record {
  tree = record { pos = parser.start; modules = [] };
  formed = (refl, All-nil IsModule);
  spelled = refl;
}

front_empty : {X : Type 0} (a b : List X) → [] ≡ a ++ b → a ≡ []
front_empty [] b e = refl
front_empty (x ∷ a) b e = cc

back_empty : {X : Type 0} (a b : List X) → [] ≡ a ++ b → b ≡ []
back_empty [] b e = sym e
back_empty (x ∷ a) b e = absurd (let f : ⊥ = cc in f)

not_faulty : (left : ℕ) → IsFaulty [] left → ⊥
not_faulty left h =
    h.no_end (back_empty h.before h.behind h.same)
    (subst IsText (sym (front_empty h.before h.behind h.same)) empty_text)

not_deep : (left : ℕ) → IsTooDeep [] left → ⊥
not_deep left h = absurd (none h.before h.token h.behind h.same)
  where
    none : (a : List Kind) (k : Kind) (b : List Kind) → [] ≡ a ++ k ∷ b → ⊥
    none [] k b e = cc
    none (x ∷ a) k b e = cc

module _ (t : Token) (us : List Token) where
  abbrev all : List Token
  all = t ∷ us

  abbrev IsHere : Pos → Type 0
  IsHere place = Contains (places all) place

  token_here : (i : ℕ) (u : Token) → slice_get all i ≡ Some u → IsHere u.pos
  token_here i u e =
      subst (λ (v : Token). IsHere v.pos) (get_or_from_slice_get all i u u e)
      (own_places all i u (slice_get_within all i u e))

  -- the last token is there
  last_here : (p : Pos) → IsHere (parser.place_of (token_at all 1) p)
  last_here p = by_cases (slice_get all (length all - 1)) refl
    where
      outside : (length all ≤ length all - 1) → ⊥
      outside le = omega arith

      some_none : (u : Token) (o : Option Token) → o ≡ Some u → o ≡ None → ⊥
      some_none u o e f = cc

      by_cases : (o : Option Token) → slice_get all (length all - 1) ≡ o → IsHere (parser.place_of o p)
      by_cases (Some u) e = token_here (length all - 1) u e
      by_cases None e =
          elim (slice_get_cases all (length all - 1)).1
          [ inl h ↦ absurd (some_none h.0 _ h.2 e) | inr h ↦ absurd (outside h.0) ]

  place_here : (left : ℕ) → IsHere (place_at all left)
  place_here left = by_cases (token_at all left) refl
    where
      by_cases : (o : Option Token) → slice_get all (length all - left) ≡ o
          → IsHere (parser.place_of o (parser.place_of (token_at all 1) parser.start))
      by_cases None e = last_here parser.start
      by_cases (Some u) e = token_here (length all - left) u e

  abbrev IsAt : ParseFault → Type 0
  IsAt f = IfSome (parse_place f) IsHere

  wrong_here : (p : Pos) (word : Option (List ℕ)) → IsHere p → IsAt (wrong_at p word)
  wrong_here p None h = h
  wrong_here p (Some word) h = h

  named_here : (p : Pos) (o : Option Token) → IsHere p → IsAt (named_at p o)
  named_here p None h = h
  named_here p (Some u) h = wrong_here p (outside_word u.kind) h

  wrong_token_here : (left : ℕ) → IsAt (parser.wrong_token all left)
  wrong_token_here left = named_here (place_at all left) (token_at all left) (place_here left)

  deep_here : (left : ℕ) → IsAt (parser.deep_fault all left)
  deep_here zero = place_here 0
  deep_here (suc zero) = wrong_token_here 0
  deep_here (suc (suc n)) = place_here (suc (suc n))

  fault_here : (f : ParseFault) → IsOfFaulty all f ⊎ IsOfTooDeep all f → IsAt f
  fault_here f (inl m) = subst IsAt (sym m.named) (wrong_token_here m.left)
  fault_here f (inr m) = subst IsAt (sym m.named) (deep_here m.left)

fault_at : (ts : List Token) (f : ParseFault) → IsOfFaulty ts f ⊎ IsOfTooDeep ts f → IsAtToken ts (Parse f)
fault_at [] f (inl m) = absurd (not_faulty m.left m.faulty)
fault_at [] f (inr m) = absurd (not_deep m.left m.deep)
fault_at (t ∷ us) f m = fault_here t us f m

pub parse_at : (ts : List Token) (fault : ParseFault) → IsFaultOf ts fault → IsAtToken ts (of_parse fault)
parse_at ts (parse.Syntax p) m = fault_at ts (parse.Syntax p) m
parse_at ts (parse.TooDeep p) m = fault_at ts (parse.TooDeep p) m
parse_at ts (parse.Outside p word) m = fault_at ts (parse.Outside p word) m
parse_at ts parse.Memory m = tt
