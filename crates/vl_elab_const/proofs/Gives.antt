-- What an instance gives, one connection behind the other.
use Rattle.std.specs.Prelude.{◌≡◌, refl, ℕ, List, [], ◌∷◌, ◌++◌, Bool, true, false, ◌||◌, bytes_eq, is_some}
use Rattle.std.specs.Prelude.{Option, Some, None, if◌then◌else◌}
use Rattle.std.specs.Option.{option_copied}
use Rattle.std.proofs.Common.{ap, sym, ◌∙◌, subst, Bor}
use Rattle.std.proofs.lemmas.Slice.Eq.{bytes_eq-Decides}
use Rattle.vl_size.proofs.Entries.{copied_some}
use Rattle.vl_tree.specs.declared.part.Connection.{Connection}
use Rattle.vl_tree.specs.Expr.{Expr}
use Rattle.vl_size.specs.Size.{Operand, operand_of, no_names}
use Rattle.vl_mean.specs.Constants.{constant_operand}
use Rattle.vl_mean.specs.Declarations.{Overrides, is_value_or, override_or}
use Rattle.vl_mean.specs.Scopes.{Scope, constant_in}
use Rattle.vl_mean.specs.Walk.{override_of, overrides_of}
use Rattle.fv_text.proofs.Lookups.{bytes_eq-swap}
use Rattle.vl_elab_spec.specs.Expressions.{known}
use Rattle.vl_elab_spec.specs.Meanings.{Names, is_overridden}
use Rattle.vl_elab_spec.specs.Items.{has_value}
use Rattle.vl_elab_scope.proofs.Sizes.{same_context}
use Rattle.vl_elab_scope.specs.Alike.{Alike}
use Rattle.vl_elab_scope.specs.Texts.{or_else}
use Rattle.vl_elab_const.specs.declared.given.Value.{Value}
use Rattle.vl_elab_const.specs.declared.given.Given.{Given}
use Rattle.vl_elab_const.specs.Given.{IsGiven, value_given, known_or, operand_or, named_value, written_value}
use Rattle.vl_elab_const.specs.Given.{first_value}
use Rattle.vl_elab_const.specs.Numbers.{HaveNumbers}

or_none : {A : Type 0} (o : Option A) → or_else o None ≡ o
or_none None = refl
or_none (Some x) = refl

or_or : {A : Type 0} (a b c : Option A) → or_else (or_else a b) c ≡ or_else a (or_else b c)
or_or None b c = refl
or_or (Some x) b c = refl

-- ---- one value more

some_kept : {A : Type 0} (o t : Option A) → is_some o ≡ true → o ≡ or_else o t
some_kept None t h = cc
some_kept (Some x) t h = refl

none_put : {A : Type 0} (o t : Option A) → is_some o ≡ false → t ≡ or_else o t
none_put None t h = refl
none_put (Some x) t h = cc

module _ (old : List ℕ → Option Value) (name other : List ℕ) (v : Value) where
  -- one that has a value keeps it
  pub value_kept : is_some (old name) ≡ true → old other ≡ or_else (old other) (named_value name v other)
  value_kept h = by (bytes_eq name other) refl
    where
      by : (b : Bool) → bytes_eq name other ≡ b → old other ≡ or_else (old other) (if b then Some v else None)
      by true e =
          some_kept (old other) (Some v) (ap (λ t. is_some (old t)) (sym ((bytes_eq-Decides name other).0 e)) ∙ h)
      by false e = sym (or_none (old other))

  -- one that has none gets it
  pub value_put : (new : Option Value) → is_some (old name) ≡ false
      → new ≡ (if bytes_eq name other then Some v else old other)
      → new ≡ or_else (old other) (named_value name v other)
  value_put new h made = made ∙ by (bytes_eq name other) refl
    where
      by : (b : Bool) → bytes_eq name other ≡ b
          → (if b then Some v else old other) ≡ or_else (old other) (if b then Some v else None)
      by true e =
          none_put (old other) (Some v) (ap (λ t. is_some (old t)) (sym ((bytes_eq-Decides name other).0 e)) ∙ h)
      by false e = sym (or_none (old other))

-- what a look-up says of a name
pub said_by : (values : List ℕ → Option Value) (text key : List ℕ) (b t : Bool) (r : Option (Bor Value)) → b ≡ is_some r
    → b ≡ t → option_copied r ≡ values text → text ≡ key → is_some (values key) ≡ t
said_by values text key b t r h k v n =
    ap (λ n. is_some (values n)) (sym n) ∙ ap is_some (sym v) ∙ sym (copied_some r) ∙ sym h ∙ k

pub said : (given : Given) (text key : List ℕ) (b t : Bool) (r : Option (Bor Value)) → b ≡ is_some r → b ≡ t
    → option_copied r ≡ value_given given text → text ≡ key → is_some (value_given given key) ≡ t
said given text key b t r h k v n = said_by (value_given given) text key b t r h k v n

-- ---- the loop

pub gives_start : (old : List ℕ → Option Value) (valued : Expr → Bool) (ns : List Names) (all : List Connection) (text : List ℕ)
    → old text ≡ None → or_else (old text) (first_value valued ns all text) ≡ first_value valued ns all text
gives_start old valued ns all text e = ap (λ o. or_else o (first_value valued ns all text)) e

pub gives_on : (old new : Option Value) (valued : Expr → Bool) (ns : List Names) (x : Connection) (front rest : List Connection)
    (whole : Option Value) (text : List ℕ) → front ≡ x ∷ rest
    → new ≡ or_else old (written_value valued ns x.port x.value text)
    → or_else old (first_value valued ns front text) ≡ whole → or_else new (first_value valued ns rest text) ≡ whole
gives_on old new valued ns x front rest whole text e made h =
    ap (λ o. or_else o (first_value valued ns rest text)) made
    ∙ or_or old (written_value valued ns x.port x.value text) (first_value valued ns rest text)
    ∙ ap (λ l. or_else old (first_value valued ns l text)) (sym e) ∙ h

pub gives_end : (made : Option Value) (valued : Expr → Bool) (ns : List Names) (front : List Connection) (whole : Option Value)
    (text : List ℕ) → front ≡ [] → or_else made (first_value valued ns front text) ≡ whole → made ≡ whole
gives_end made valued ns front whole text e h =
    sym (or_none made) ∙ ap (λ l. or_else made (first_value valued ns l text)) (sym e) ∙ h

-- ---- the whole

module _ (valued : Expr → Bool) (ns : List Names) (ss : List Scope) (h : HaveNumbers ns ss) where
  operand_of_known : (e : Expr) → constant_operand (constant_in ss) e ≡ operand_of [] no_names (known ns e)
  operand_of_known e = sym (λ i. constant_operand (λ text. h text i) e)

  abbrev made : Expr → Value
  made e = record { expr = known ns e; has_value = valued e }

  value_here : (c : Connection) (text : List ℕ) (x : Operand) (os : Overrides) (rest : Option Value)
      → override_or os text x ≡ operand_or rest x → (o : Option Expr)
      → override_or (override_of valued ss c.port o ++ os) text x
      ≡ operand_or (or_else (written_value valued ns c.port o text) rest) x
  value_here c text x os rest h None = h
  value_here c text x os rest h (Some e) = by (bytes_eq text c.port) (bytes_eq c.port text) (bytes_eq-swap text c.port)
    where
      by : (a b : Bool) → a ≡ b → (if a then constant_operand (constant_in ss) e else override_or os text x)
          ≡ operand_or (or_else (if b then Some (made e) else None) rest) x
      by true true k = operand_of_known e
      by true false k = cc
      by false true k = cc
      by false false k = h

  value_is : (xs : List Connection) (text : List ℕ) (x : Operand)
      → override_or (overrides_of valued ss xs) text x ≡ operand_or (first_value valued ns xs text) x
  value_is [] text x = refl
  value_is (c ∷ cs) text x =
      value_here c text x (overrides_of valued ss cs) (first_value valued ns cs text) (value_is cs text x) c.value

  known_here : (c : Connection) (text : List ℕ) (t : Bool) (os : Overrides) (rest : Option Value)
      → is_value_or os text t ≡ known_or rest t → (o : Option Expr)
      → is_value_or (override_of valued ss c.port o ++ os) text t
      ≡ known_or (or_else (written_value valued ns c.port o text) rest) t
  known_here c text t os rest h None = h
  known_here c text t os rest h (Some e) = by (bytes_eq text c.port) (bytes_eq c.port text) (bytes_eq-swap text c.port)
    where
      by : (a b : Bool) → a ≡ b → (if a then valued e else is_value_or os text t)
          ≡ known_or (or_else (if b then Some (made e) else None) rest) t
      by true true k = refl
      by true false k = cc
      by false true k = cc
      by false false k = h

  known_is : (xs : List Connection) (text : List ℕ) (t : Bool)
      → is_value_or (overrides_of valued ss xs) text t ≡ known_or (first_value valued ns xs text) t
  known_is [] text t = refl
  known_is (c ∷ cs) text t =
      known_here c text t (overrides_of valued ss cs) (first_value valued ns cs text) (known_is cs text t) c.value

  there_here : (c : Connection) (text : List ℕ) (os : Overrides) (rest : Option Value)
      → is_overridden os text ≡ is_some rest → (o : Option Expr)
      → is_overridden (override_of valued ss c.port o ++ os) text
      ≡ is_some (or_else (written_value valued ns c.port o text) rest)
  there_here c text os rest h None = h
  there_here c text os rest h (Some e) = by (bytes_eq text c.port) (bytes_eq c.port text) (bytes_eq-swap text c.port)
    where
      by : (a b : Bool) → a ≡ b → (a || is_overridden os text)
          ≡ is_some (or_else (if b then Some (made e) else None) rest)
      by true true k = refl
      by true false k = cc
      by false true k = cc
      by false false k = h

  there_is : (xs : List Connection) (text : List ℕ)
      → is_overridden (overrides_of valued ss xs) text ≡ is_some (first_value valued ns xs text)
  there_is [] text = refl
  there_is (c ∷ cs) text =
      there_here c text (overrides_of valued ss cs) (first_value valued ns cs text) (there_is cs text) c.value

  pub all_given : (given : List ℕ → Option Value) (xs : List Connection)
      → ((text : List ℕ) → given text ≡ first_value valued ns xs text) → IsGiven given (overrides_of valued ss xs)
  all_given given xs e = record {
    value = λ text x. value_is xs text x ∙ ap (λ o. operand_or o x) (sym (e text));
    known = λ text t. known_is xs text t ∙ ap (λ o. known_or o t) (sym (e text));
    there = λ text. there_is xs text ∙ ap is_some (sym (e text));
  }

-- over names that mean the same the same expressions have values
judged_same : (names known : List Names) → Alike names known → (ss : List Scope) (xs : List Connection)
    → overrides_of (has_value names) ss xs ≡ overrides_of (has_value known) ss xs
judged_same names known same ss [] = refl
judged_same names known same ss (c ∷ cs) = λ i. by c.value i ++ judged_same names known same ss cs i
  where
    by : (o : Option Expr) → override_of (has_value names) ss c.port o ≡ override_of (has_value known) ss c.port o
    by None = refl
    by (Some e) =
        ap (λ b. record { name = c.port; operand = constant_operand (constant_in ss) e; has_value = b } ∷ [])
        (ap (λ c. is_some c.size) (same_context names known same e))

pub judged_given : (names known : List Names) → Alike names known → (ss : List Scope) (xs : List Connection)
    (given : List ℕ → Option Value) → IsGiven given (overrides_of (has_value names) ss xs)
    → IsGiven given (overrides_of (has_value known) ss xs)
judged_given names known same ss xs given h = subst (IsGiven given) (judged_same names known same ss xs) h
