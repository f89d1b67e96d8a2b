-- What names mean in the value of a parameter: those before it are constants, where none of them is refused.
use Rattle.std.specs.Prelude.{◌≡◌, refl, ℕ, List, [], ◌∷◌, ◌++◌, map, Bool, true, false, ◌||◌, ◌&&◌, not, bytes_eq}
use Rattle.std.specs.Prelude.{Option, Some, None, is_none, ◌⊎◌, if◌then◌else◌}
use Rattle.std.proofs.Common.{ap, sym, ◌∙◌, subst, inl, inr, true≢false}
use Rattle.vl_tree.specs.declared.declaration.Parameter.{Parameter}
use Rattle.vl_tree.specs.declared.part.Connection.{Connection}
use Rattle.vl_tree.specs.Expr.{Expr}
use Rattle.vl_tree.specs.DeclarationWellFormed.{IsParameter}
use Rattle.vl_mean.specs.declared.const_number.Const.{Const}
use Rattle.vl_mean.specs.Cells.{contains_name}
use Rattle.vl_mean.specs.Constants.{constant_of}
use Rattle.vl_mean.specs.Declarations.{Override, Overrides, is_value_or}
use Rattle.vl_mean.specs.Runs.{Each}
use Rattle.vl_mean.specs.Scopes.{Scope}
use Rattle.vl_mean.specs.Walk.{Contents, has_any, override_of, overrides_of}
use Rattle.vl_mean_flat.proofs.EachOf.{both, each_map}
use Rattle.vl_elab_spec.specs.Expressions.{expr_refusals}
use Rattle.vl_elab_spec.specs.Items.{range_refusals, width_refusals, value_context}
use Rattle.vl_elab_spec.specs.Meanings.{Meaning, undeclared, constant, loop_variable, object, faulty, shapeless, later}
use Rattle.vl_elab_spec.specs.Meanings.{Names, is_undeclared, meaning_of, meaning_in, value_of, constants, constant_or}
use Rattle.vl_elab_spec.specs.Meanings.{all_later, not_reached, is_overridden, is_known_parameter, is_known_value}
use Rattle.vl_elab_spec.specs.Meanings.{is_known_shape, reached}
use Rattle.vl_elab_accepted_laws.proofs.Contained.{same_text}
use Rattle.vl_elab_accepted_laws.proofs.Fresh.{NoneOf}
use Rattle.vl_elab_scope.specs.Seen.{IsNamed, AreNamed, AllNamed}
use Rattle.vl_elab_accepted_laws.specs.Sized.{IsSure, AreSure, IsSound, AreSound}
use Rattle.vl_elab_spec.specs.Among.{AreAmong}
use Rattle.vl_elab_accepted_laws.proofs.Entries.{names_in}
use Rattle.vl_elab_accepted_laws.proofs.Level.{own, own_names, other_names, level_named}
use Rattle.vl_elab_accepted_laws.proofs.Constants.{IsNarrow, shape_known, shape_there, value_there}
use Rattle.vl_elab_accepted_laws.proofs.Standing.{IsThing, AreItsConstants, level, own_meaning, other_meaning, standing}
use Rattle.vl_elab_accepted_laws.proofs.Standing.{named_own, named_other, not_named, each_found, none_behind}
use Rattle.vl_elab_accepted_laws.proofs.Standing.{own_listed}
use Rattle.vl_elab_accepted_laws.proofs.Standing.{Standing}

-- ---- values that are given to parameters

-- each of them has a value
abbrev pub AllValued : Overrides → Type 0
AllValued os = Each (λ (o : Override). o.has_value ≡ true) os

value_or : (os : Overrides) (text : List ℕ) (b : Bool) → AllValued os → is_overridden os text ≡ true
    → is_value_or os text b ≡ true
value_or [] text b a e = absurd (true≢false (sym e))
value_or (o ∷ os) text b a e = by (bytes_eq text o.name) (λ h. value_or os text b a.1 h) e
  where
    by : (t : Bool) → (is_overridden os text ≡ true → is_value_or os text b ≡ true)
        → (t || is_overridden os text) ≡ true → (if t then o.has_value else is_value_or os text b) ≡ true
    by true next h = a.0
    by false next h = next h

none_or : (os : Overrides) (text : List ℕ) (b : Bool) → is_overridden os text ≡ false → is_value_or os text b ≡ b
none_or [] text b e = refl
none_or (o ∷ os) text b e = by (bytes_eq text o.name) (λ h. none_or os text b h) e
  where
    by : (t : Bool) → (is_overridden os text ≡ false → is_value_or os text b ≡ b)
        → (t || is_overridden os text) ≡ false → (if t then o.has_value else is_value_or os text b) ≡ b
    by true next h = absurd (true≢false h)
    by false next h = next h

-- where each expression has a value
pub all_valued_of : (ss : List Scope) (xs : List Connection) → AllValued (overrides_of has_any ss xs)
all_valued_of ss [] = tt
all_valued_of ss (x ∷ xs) =
    both (λ (o : Override). o.has_value ≡ true) (override_of has_any ss x.port x.value) (overrides_of has_any ss xs)
    (one x.value) (all_valued_of ss xs)
  where
    one : (o : Option Expr) → AllValued (override_of has_any ss x.port o)
    one None = tt
    one (Some e) = (refl, tt)

abbrev pub IsConstant : Meaning → Type 0
IsConstant (constant c selected) = Unit {0}
IsConstant m = ⊥

abbrev pub AreConstants : Names → Type 0
AreConstants ns = Each (λ n. IsConstant n.1) ns

pub constant_there : (o : Option Const) (selected : Bool) → is_none o ≡ false → IsConstant (constant_or true o selected)
constant_there None selected h = absurd (true≢false h)
constant_there (Some c) selected h = tt

sure_constant : (m : Meaning) → IsConstant m → IsSure m
sure_constant undeclared h = absurd h
sure_constant (constant c selected) h = tt
sure_constant loop_variable h = absurd h
sure_constant (object d role scalar) h = absurd h
sure_constant faulty h = absurd h
sure_constant shapeless h = absurd h
sure_constant later h = absurd h

sure_thing : (m : Meaning) → IsThing m → IsSure m
sure_thing undeclared h = absurd h
sure_thing (constant c selected) h = absurd h
sure_thing loop_variable h = tt
sure_thing (object d role scalar) h = tt
sure_thing faulty h = absurd h
sure_thing shapeless h = tt
sure_thing later h = absurd h

pub sure_sound : (m : Meaning) → IsSound m → IsSure m
sure_sound undeclared h = tt
sure_sound (constant c selected) h = tt
sure_sound loop_variable h = tt
sure_sound (object d role scalar) h = tt
sure_sound faulty h = h
sure_sound shapeless h = tt
sure_sound later h = tt

pub no_value : (m : Meaning) (c : Const) → IsThing m → value_of m ≡ Some c → ⊥
no_value undeclared c h k = h
no_value (constant d selected) c h k = h
no_value loop_variable c h k = cc
no_value (object d role scalar) c h k = cc
no_value faulty c h k = h
no_value shapeless c h k = cc
no_value later c h k = h

declared_constant : (m : Meaning) → IsConstant m → is_undeclared m ≡ false
declared_constant undeclared h = absurd h
declared_constant (constant c selected) h = refl
declared_constant loop_variable h = refl
declared_constant (object d role scalar) h = refl
declared_constant faulty h = refl
declared_constant shapeless h = refl
declared_constant later h = refl

declared_thing : (m : Meaning) → IsThing m → is_undeclared m ≡ false
declared_thing undeclared h = absurd h
declared_thing (constant c selected) h = refl
declared_thing loop_variable h = refl
declared_thing (object d role scalar) h = refl
declared_thing faulty h = refl
declared_thing shapeless h = refl
declared_thing later h = refl

-- constants that are listed
pub constants_listed : (text : List ℕ) (ns : Names) → AreConstants ns → contains_name (names_in ns) text ≡ true
    → is_undeclared (meaning_of ns text) ≡ false
constants_listed text [] h k = absurd (true≢false (sym k))
constants_listed text (n ∷ ns) h k = by (bytes_eq text n.0) k (constants_listed text ns h.1)
  where
    by : (b : Bool) → (b || contains_name (names_in ns) text) ≡ true
        → (contains_name (names_in ns) text ≡ true → is_undeclared (meaning_of ns text) ≡ false)
        → is_undeclared (if b then n.1 else meaning_of ns text) ≡ false
    by true k next = declared_constant n.1 h.0
    by false k next = next k

abbrev pub AreThere : Names → Type 0
AreThere ns = Each (λ n. is_undeclared n.1 ≡ false) ns

pub constants_there : (ns : Names) → AreConstants ns → AreThere ns
constants_there ns h = each_map (λ n k. declared_constant n.1 k) ns h

pub there_append : (text : List ℕ) (ns ms : Names) → AreThere ns
    → meaning_of (ns ++ ms) text
    ≡ (if is_undeclared (meaning_of ns text) then meaning_of ms text else meaning_of ns text)
there_append text [] ms h = refl
there_append text (n ∷ ns) ms h = by (bytes_eq text n.0) (there_append text ns ms h.1)
  where
    by : (b : Bool) → meaning_of (ns ++ ms) text
        ≡ (if is_undeclared (meaning_of ns text) then meaning_of ms text else meaning_of ns text)
        → (if b then n.1 else meaning_of (ns ++ ms) text)
        ≡ (if is_undeclared (if b then n.1 else meaning_of ns text) then meaning_of ms text
        else (if b then n.1 else meaning_of ns text))
    by true next = sym (ap (λ t. if t then meaning_of ms text else n.1) h.0)
    by false next = next

-- ---- names that aren't reached

module _ (parameters earlier : List (List ℕ)) where
  abbrev is_left : List ℕ → Bool
  is_left text = contains_name parameters text && not (contains_name earlier text)

  abbrev mapped : Names → Names
  mapped ns = map (not_reached parameters earlier) ns

  mapped_here : (n : List ℕ × Meaning) (text : List ℕ) (rest : Meaning) (b : Bool)
      → (if bytes_eq text (if b then (n.0, later) else n).0 then (if b then (n.0, later) else n).1 else rest)
      ≡ (if bytes_eq text n.0 then (if b then later else n.1) else rest)
  mapped_here n text rest true = refl
  mapped_here n text rest false = refl

  -- a name that is reached, or is no parameter
  mapped_kept : (ns : Names) (text : List ℕ) → is_left text ≡ false
      → meaning_of (mapped ns) text ≡ meaning_of ns text
  mapped_kept [] text h = refl
  mapped_kept (n ∷ ns) text h =
      mapped_here n text (meaning_of (mapped ns) text) (is_left n.0) ∙ by (bytes_eq text n.0) refl (mapped_kept ns text h)
    where
      by : (b : Bool) → bytes_eq text n.0 ≡ b → meaning_of (mapped ns) text ≡ meaning_of ns text
          → (if b then (if is_left n.0 then later else n.1) else meaning_of (mapped ns) text)
          ≡ (if b then n.1 else meaning_of ns text)
      by true e next =
          ap (λ t. if t then later else n.1) (ap is_left (sym (same_text text n.0 e)) ∙ h)
      by false e next = next

  mapped_later : (ns : Names) (text : List ℕ) → is_left text ≡ true → is_undeclared (meaning_of ns text) ≡ false
      → meaning_of (mapped ns) text ≡ later
  mapped_later [] text h k = absurd (true≢false k)
  mapped_later (n ∷ ns) text h k =
      mapped_here n text (meaning_of (mapped ns) text) (is_left n.0)
      ∙ by (bytes_eq text n.0) refl k (mapped_later ns text h)
    where
      by : (b : Bool) → bytes_eq text n.0 ≡ b → is_undeclared (if b then n.1 else meaning_of ns text) ≡ false
          → (is_undeclared (meaning_of ns text) ≡ false → meaning_of (mapped ns) text ≡ later)
          → (if b then (if is_left n.0 then later else n.1) else meaning_of (mapped ns) text) ≡ later
      by true e k next =
          ap (λ t. if t then later else n.1) (ap is_left (sym (same_text text n.0 e)) ∙ h)
      by false e k next = next k

  named_later : (n : List ℕ × Meaning) (b : Bool) → IsNamed n → IsNamed (if b then (n.0, later) else n)
  named_later n true h = tt
  named_later n false h = h

  mapped_named : (ns : Names) → AreNamed ns → AreNamed (mapped ns)
  mapped_named [] h = tt
  mapped_named (n ∷ ns) h = (named_later n (is_left n.0) h.0, mapped_named ns h.1)

pub inner_meaning : (here here' rest : Meaning) → here ≡ here' → is_undeclared here' ≡ false
    → (if is_undeclared here then rest else here) ≡ here'
inner_meaning here here' rest e h = (λ i. if is_undeclared (e i) then rest else e i) ∙ ap (λ b. if b then rest else here') h

pub outer_meaning : (here rest : Meaning) → here ≡ undeclared → (if is_undeclared here then rest else here) ≡ rest
outer_meaning here rest e = ap (λ m. if is_undeclared m then rest else m) e

-- ---- several scopes

-- the same, or one that isn't reached
abbrev IsOr : Meaning → Meaning → Type 0
IsOr m k = (m ≡ k) ⊎ (m ≡ later)

-- at a name, what isn't reached is later, and all else stays
module _ (parameters earlier : List (List ℕ)) where
  mapped_or : (ns : Names) (text : List ℕ)
      → IsOr (meaning_of (mapped parameters earlier ns) text) (meaning_of ns text)
  mapped_or [] text = inl refl
  mapped_or (n ∷ ns) text =
      by (is_left parameters earlier n.0) (bytes_eq text n.0) refl refl (mapped_or ns text)
    where
      rest : Names
      rest = mapped parameters earlier ns

      by : (b e : Bool) → is_left parameters earlier n.0 ≡ b → bytes_eq text n.0 ≡ e
          → IsOr (meaning_of rest text) (meaning_of ns text)
          → IsOr (meaning_of ((if b then (n.0, later) else n) ∷ rest) text)
          (if e then n.1 else meaning_of ns text)
      by true true k q next = inr (ap (λ t. if t then later else meaning_of rest text) q)
      by false true k q next = inl (ap (λ t. if t then n.1 else meaning_of rest text) q)
      by true false k q next =
          subst (λ m. IsOr m (meaning_of ns text)) (sym (ap (λ t. if t then later else meaning_of rest text) q)) next
      by false false k q next =
          subst (λ m. IsOr m (meaning_of ns text)) (sym (ap (λ t. if t then n.1 else meaning_of rest text) q)) next

pub reached_named : (cs : List Contents) (earlier : List (List ℕ)) (ns : List Names) → AllNamed ns
    → AllNamed (reached cs earlier ns)
reached_named [] earlier ns h = h
reached_named (c ∷ cs) earlier [] h = h
reached_named (c ∷ cs) earlier (n ∷ ns) h =
    (mapped_named (own_names c) earlier n h.0, reached_named cs c.earlier ns h.1)

pub reached_sound : (cs : List Contents) (earlier : List (List ℕ)) (ns : List Names) (text : List ℕ)
    → IsSound (meaning_in ns text) → IsSound (meaning_in (reached cs earlier ns) text)
reached_sound [] earlier ns text h = h
reached_sound (c ∷ cs) earlier [] text h = h
reached_sound (c ∷ cs) earlier (n ∷ ns) text h =
    by (mapped_or (own_names c) earlier n text) (reached_sound cs c.earlier ns text)
  where
    rest : Meaning
    rest = meaning_in (reached cs c.earlier ns) text

    here : Meaning
    here = meaning_of (mapped (own_names c) earlier n) text

    same : (u : Bool) → is_undeclared (meaning_of n text) ≡ u
        → (IsSound (meaning_in ns text) → IsSound rest)
        → IsSound (if u then meaning_in ns text else meaning_of n text)
        → IsSound (if u then rest else meaning_of n text)
    same true e next k = next k
    same false e next k = k

    by : (here ≡ meaning_of n text) ⊎ (here ≡ later) → (IsSound (meaning_in ns text) → IsSound rest)
        → IsSound (if is_undeclared here then rest else here)
    by (inl e) next =
        subst (λ m. IsSound (if is_undeclared m then rest else m)) (sym e)
        (same (is_undeclared (meaning_of n text)) refl next h)
    by (inr e) next = subst (λ m. IsSound (if is_undeclared m then rest else m)) (sym e) tt

-- ---- in the value of a parameter, and everywhere behind all of them

module _ (s : Scope) (beyond outer : List Names) (c : Contents) (made : AreItsConstants s c)
    (outer_named : AllNamed outer) (outer_sound : AreSound outer) (beyond_named : AllNamed beyond)
    (beyond_sound : AreSound beyond) where
  -- the parameters so far, which are those of these names that are there before
  pub record AreSoFar (ns : Names) (earlier : List (List ℕ)) : Type 0 where
    pub all : AreConstants ns
    pub begin : (text : List ℕ) → is_undeclared (meaning_of ns text) ≡ false
        → own_meaning s beyond outer c text ≡ meaning_of ns text
    pub reached : (text : List ℕ) → contains_name (own_names c) text ≡ true → contains_name earlier text ≡ true
        → is_undeclared (meaning_of ns text) ≡ false

  -- within what a parameter uses of the scopes around, and within these
  abbrev around_in : List Names → Names → List Names
  around_in out ns = (ns ++ all_later c) ∷ out

  abbrev pub around_now : Names → List Names
  around_now ns = around_in beyond ns

  around_own : (out : List Names) (ns : Names) (text : List ℕ) → AreConstants ns → is_undeclared (meaning_of ns text) ≡ false
      → meaning_in (around_in out ns) text ≡ meaning_of ns text
  around_own out ns text h k =
      inner_meaning (meaning_of (ns ++ all_later c) text) (meaning_of ns text) (meaning_in out text)
      (there_append text ns (all_later c) (constants_there ns h)
      ∙ ap (λ b. if b then meaning_of (all_later c) text else meaning_of ns text) k) k

  around_none : (out : List Names) (ns : Names) (text : List ℕ) → AreConstants ns → is_undeclared (meaning_of ns text) ≡ true
      → contains_name (own_names c) text ≡ false → contains_name (other_names c) text ≡ false
      → meaning_in (around_in out ns) text ≡ meaning_in out text
  around_none out ns text h k own other =
      outer_meaning (meaning_of (ns ++ all_later c) text) (meaning_in out text)
      (there_append text ns (all_later c) (constants_there ns h)
      ∙ ap (λ b. if b then meaning_of (all_later c) text else meaning_of ns text) k
      ∙ none_behind s beyond outer c text own other)

  -- how a name is read over what is known, beside how it is read over what is judged
  pub data Reads (out judged : List Names) (ns : Names) (text : List ℕ) : Type 0 where
    unreached : meaning_in judged text ≡ later → Reads out judged ns text
    passed : is_undeclared (meaning_of ns text) ≡ false → meaning_in judged text ≡ meaning_of ns text
        → Reads out judged ns text
    thing : (m : Meaning) → IsThing m → meaning_in judged text ≡ m → Reads out judged ns text
    around : meaning_in judged text ≡ meaning_in out text
        → meaning_in (around_in out ns) text ≡ meaning_in out text → Reads out judged ns text

  module _ (out : List Names) (sound : AreSound out) (judged : List Names) (ns : Names) (all : AreConstants ns)
      (reads : (text : List ℕ) → Reads out judged ns text) where
    pub reads_sure : AreSure judged
    reads_sure text = by (reads text)
      where
        by : Reads out judged ns text → IsSure (meaning_in judged text)
        by (unreached e) = subst IsSure (sym e) tt
        by (passed k e) =
            subst IsSure (sym e) (sure_constant (meaning_of ns text) (each_found IsConstant text ns all k))
        by (thing m h e) = subst IsSure (sym e) (sure_thing m h)
        by (around e k) = subst IsSure (sym e) (sure_sound (meaning_in out text) (sound text))

    pub reads_among : AreAmong (constants judged) (constants (around_in out ns))
    reads_among text k h = by (reads text)
      where
        absent : None ≡ Some k → ⊥
        absent e = cc

        by : Reads out judged ns text → value_of (meaning_in (around_in out ns) text) ≡ Some k
        by (unreached e) = absurd (absent (sym (ap value_of e) ∙ h))
        by (passed d e) = ap value_of (around_own out ns text all d ∙ sym e) ∙ h
        by (thing m d e) = absurd (no_value m k d (sym (ap value_of e) ∙ h))
        by (around e d) = ap value_of (d ∙ sym e) ∙ h

  not_declared : (b : Bool) → (b ≡ false → ⊥) → b ≡ true
  not_declared true h = refl
  not_declared false h = absurd (h refl)

  -- ---- before a parameter

  abbrev pub before : List (List ℕ) → List Names
  before earlier = map (not_reached (own_names c) earlier) (level s beyond outer c) ∷ beyond

  pub before_named : (earlier : List (List ℕ)) → AllNamed (before earlier)
  before_named earlier =
      (mapped_named (own_names c) earlier (level s beyond outer c) (level_named s beyond outer c), beyond_named)

  module _ (ns : Names) (earlier : List (List ℕ)) (h : AreSoFar ns earlier) where
    reads_before : (text : List ℕ) → Reads beyond (before earlier) ns text
    reads_before text = by (standing s beyond outer c made text) (contains_name earlier text) refl
      where
        kept : contains_name (own_names c) text ≡ false
            → meaning_of (mapped (own_names c) earlier (level s beyond outer c)) text ≡ meaning_of (level s beyond outer c) text
        kept e =
            mapped_kept (own_names c) earlier (level s beyond outer c) text
            (ap (λ b. b && not (contains_name earlier text)) e)

        none_so_far : is_undeclared (own_meaning s beyond outer c text) ≡ true → is_undeclared (meaning_of ns text) ≡ true
        none_so_far e =
            not_declared (is_undeclared (meaning_of ns text))
            (λ d. true≢false (sym e ∙ ap is_undeclared (h.begin text d) ∙ d))

        by : Standing s beyond outer c text → (b : Bool) → contains_name earlier text ≡ b → Reads beyond (before earlier) ns text
        by (named_own own d is) true e =
            let there = h.reached text own e in
            passed there
            (inner_meaning (meaning_of (mapped (own_names c) earlier (level s beyond outer c)) text) (meaning_of ns text)
            (meaning_in beyond text)
            (mapped_kept (own_names c) earlier (level s beyond outer c) text
            (λ i. own i && not (e i)) ∙ is ∙ h.begin text there) there)
        by (named_own own d is) false e =
            unreached
            (inner_meaning (meaning_of (mapped (own_names c) earlier (level s beyond outer c)) text) later
            (meaning_in beyond text)
            (mapped_later (own_names c) earlier (level s beyond outer c) text (λ i. own i && not (e i))
            (ap is_undeclared is ∙ d)) refl)
        by (named_other own d is_thing is) b e =
            thing (other_meaning s beyond outer c text) is_thing
            (inner_meaning (meaning_of (mapped (own_names c) earlier (level s beyond outer c)) text)
            (other_meaning s beyond outer c text) (meaning_in beyond text) (kept own ∙ is) d)
        by (not_named own other d is) b e =
            around
            (outer_meaning (meaning_of (mapped (own_names c) earlier (level s beyond outer c)) text) (meaning_in beyond text)
            (kept own ∙ is))
            (around_none beyond ns text h.all (none_so_far d) own other)

    before_sure : AreSure (before earlier)
    before_sure = reads_sure beyond beyond_sound (before earlier) ns h.all reads_before

    before_among : AreAmong (constants (before earlier)) (constants (around_now ns))
    before_among = reads_among beyond beyond_sound (before earlier) ns h.all reads_before

    -- what is judged of a parameter
    pub known_parameter : (os : Overrides) (x : Parameter) → AllValued os → IsParameter x
        → NoneOf (range_refusals (before earlier) x.shape.range)
        → NoneOf (width_refusals (before earlier) x.pos x.shape.range)
        → NoneOf (if is_overridden os x.name then []
        else expr_refusals (before earlier) true (value_context (before earlier) x.shape.range x.value) x.value)
        → is_known_parameter os (around_now ns) x ≡ true
    known_parameter os x all_have w ranges widths value = by (is_overridden os x.name) refl value
      where
        narrow : IsNarrow (before earlier) x.shape.range
        narrow =
            shape_known (before earlier) (before_named earlier) before_sure x.pos x.shape.range w.0 ranges widths

        shape : is_known_shape (around_now ns) x.shape.range ≡ true
        shape =
            shape_there (before earlier) (before_named earlier) before_sure (around_now ns) before_among x.shape.range
            narrow

        by : (b : Bool) → is_overridden os x.name ≡ b
            → NoneOf (if b then []
            else expr_refusals (before earlier) true (value_context (before earlier) x.shape.range x.value) x.value)
            → is_known_parameter os (around_now ns) x ≡ true
        by true e v =
            λ i. value_or os x.name (is_known_value (around_now ns) x.shape.range x.value) all_have e i && shape i
        by false e v =
            let there = value_there (before earlier) (before_named earlier) before_sure (around_now ns) before_among
            x.shape.range x.value w.2 narrow v in
            λ i. (none_or os x.name (is_known_value (around_now ns) x.shape.range x.value) e ∙ there) i && shape i

  -- ---- behind all of them

  module _ (all : AreConstants (own s beyond outer c)) where
    reads_behind : (text : List ℕ) → Reads outer (level s beyond outer c ∷ outer) (own s beyond outer c) text
    reads_behind text = by (standing s beyond outer c made text)
      where
        by : Standing s beyond outer c text → Reads outer (level s beyond outer c ∷ outer) (own s beyond outer c) text
        by (named_own is_own d is) =
            passed d
            (inner_meaning (meaning_of (level s beyond outer c) text) (own_meaning s beyond outer c text) (meaning_in outer text)
            is d)
        by (named_other is_own d is_thing is) =
            thing (other_meaning s beyond outer c text) is_thing
            (inner_meaning (meaning_of (level s beyond outer c) text) (other_meaning s beyond outer c text) (meaning_in outer text)
            is d)
        by (not_named is_own other d is) =
            around (outer_meaning (meaning_of (level s beyond outer c) text) (meaning_in outer text) is)
            (around_none outer (own s beyond outer c) text all d is_own other)

    pub behind_sure : AreSure (level s beyond outer c ∷ outer)
    behind_sure = reads_sure outer outer_sound (level s beyond outer c ∷ outer) (own s beyond outer c) all reads_behind

    pub behind_among : AreAmong (constants (level s beyond outer c ∷ outer)) (constants (around_in outer (own s beyond outer c)))
    behind_among = reads_among outer outer_sound (level s beyond outer c ∷ outer) (own s beyond outer c) all reads_behind
