-- Of a scope that is entered as far as its parameters, these.
use Rattle.std.specs.Prelude.{◌≡◌, ℕ, List, Option}
use Rattle.std.proofs.Common.{sym, subst}
use Rattle.vl_tree.specs.declared.declaration.HeaderParameter.{HeaderParameter}
use Rattle.vl_tree.specs.declared.declaration.Port.{Port}
use Rattle.vl_tree.specs.Expr.{Expr}
use Rattle.vl_tree.specs.Item.{Item, items}
use Rattle.vl_mean.specs.Constants.{Constants}
use Rattle.vl_mean.specs.Declarations.{Overrides, header_parameters, with_constants}
use Rattle.vl_mean.specs.Scopes.{Scope}
use Rattle.vl_mean.specs.Walk.{Contents}
use Rattle.vl_elab_spec.specs.Meanings.{Names, all_later, meaning_of}
use Rattle.vl_elab_scope.specs.Seen.{innermost, AreNamed}
use Rattle.vl_elab_scope.specs.Alike.{Alike}
use Rattle.vl_elab_const.specs.declared.given.Value.{Value}
use Rattle.vl_elab_const.specs.Given.{IsGiven}
use Rattle.vl_elab_const.specs.Numbers.{HaveNumbers}
use Rattle.vl_elab_params.specs.Among.{among_parameters, constants_of, contents, parameter_meanings}
use Rattle.vl_elab_params.specs.Entered.{Stacks, stacks, entered}
use Rattle.vl_elab_params.proofs.KeptParameters.{all_kept}
use Rattle.vl_elab_params.proofs.LaterNames.{all_named}
use Rattle.vl_elab_params.proofs.Whole.{entered_alike, entered_numbers}
use Rattle.vl_elab_params.specs.Own.{AreBehind, AreOwn}

module _ (s : Scope) (c : Contents) (behind : Names) (outer around beneath : List Names) (ss : List Scope)
    (same_behind : (text : List ℕ) → meaning_of behind text ≡ meaning_of (all_later c) text) (named : AreNamed behind)
    (same_outer : Alike around outer) (same_numbers : HaveNumbers beneath ss) (given : List ℕ → Option Value)
    (g : IsGiven given c.overrides) (same : s.constants ≡ constants_of ss c) where
  abbrev stacks_entered : Stacks
  stacks_entered = entered given c.parameters c.items behind around beneath

  abbrev IsOwn : Stacks → Constants → Type 0
  IsOwn t cs = AreOwn (innermost t.names) (innermost t.numbers) (parameter_meanings s outer c) cs

  pub entered_own : IsOwn stacks_entered s.constants
  entered_own =
      let h = all_kept s (all_later c) behind outer around beneath ss same_behind named (all_named c) same_outer
      same_numbers given c.overrides g c.parameters c.items same in
      subst (λ cs. IsOwn stacks_entered cs) (sym same)
      (subst (λ t. IsOwn t (constants_of ss c)) (sym h.2) (record {
        own_named = h.3.own_named;
        also_named = h.3.also_named;
        values_named = h.3.values_named;
        meaning = h.3.meaning;
        there = h.3.there;
        value = h.3.value;
        only = h.3.only;
      }))

pub behind_kept : (behind kept meant : Names) → kept ≡ behind → AreNamed behind
    → ((text : List ℕ) → meaning_of behind text ≡ meaning_of meant text) → AreBehind kept meant
behind_kept behind kept meant e h k =
    subst (λ ns. AreBehind ns meant) (sym e) (record { named = h; meaning = k })

-- ---- of stacks by their parts

module _ (given : List ℕ → Option Value) (ps : List HeaderParameter) (qs : List Port) (xs : List Item)
    (behind : Names)
    (same_behind : (os : Overrides) (text : List ℕ)
    → meaning_of behind text ≡ meaning_of (all_later (contents os ps qs xs)) text) (named : AreNamed behind)
    (around beneath names numbers : List Names)
    (e : stacks names numbers ≡ entered given (header_parameters ps) (items xs) behind around beneath) (s : Scope)
    (outer : List Names) (ss : List Scope) (os : Overrides) (g : IsGiven given os) (h : Alike around outer)
    (k : HaveNumbers beneath ss) (same : s.constants ≡ constants_of ss (contents os ps qs xs)) where
  pub names_made : Alike names (among_parameters s outer outer (contents os ps qs xs))
  names_made =
      subst (λ t. Alike t.names (among_parameters s outer outer (contents os ps qs xs))) (sym e)
      (entered_alike s (contents os ps qs xs) behind outer around beneath ss (same_behind os) named h k given g same)

  pub numbers_made : HaveNumbers numbers (with_constants s.constants ss)
  numbers_made =
      subst (λ t. HaveNumbers t.numbers (with_constants s.constants ss)) (sym e)
      (entered_numbers s (contents os ps qs xs) behind outer around beneath ss (same_behind os) named h k given g same)

  pub own_made : AreOwn (innermost names) (innermost numbers) (parameter_meanings s outer (contents os ps qs xs))
      s.constants
  own_made =
      subst (λ t. AreOwn (innermost t.names) (innermost t.numbers)
      (parameter_meanings s outer (contents os ps qs xs)) s.constants) (sym e)
      (entered_own s (contents os ps qs xs) behind outer around beneath ss (same_behind os) named h k given g same)
