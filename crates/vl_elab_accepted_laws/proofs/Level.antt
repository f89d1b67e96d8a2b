-- What a name means in one scope, and in scopes.
use Rattle.std.specs.Prelude.{◌≡◌, refl, ℕ, List, [], ◌∷◌, ◌++◌, map, Bool, true, false, ◌||◌, cond, bytes_eq}
use Rattle.std.specs.Prelude.{Option, Some, None, if◌then◌else◌}
use Rattle.std.proofs.Common.{ap, sym, ◌∙◌, true≢false, subst}
use Rattle.std.proofs.lemmas.Slice.Eq.{bytes_eq-Decides}
use Rattle.vl_size.specs.declared.decl.Decl.{Decl}
use Rattle.vl_size.specs.Table.{is_declared, declared_as}
use Rattle.vl_mean.specs.declared.const_number.Const.{Const}
use Rattle.vl_mean.specs.Cells.{contains_name}
use Rattle.vl_mean.specs.Constants.{Constants, constant_of}
use Rattle.vl_mean.specs.Runs.{Each}
use Rattle.vl_mean.specs.Scopes.{Scope, constant_in, constant_unless, visible}
use Rattle.vl_mean.specs.Walk.{Contents, parameter_names, port_names}
use Rattle.vl_mean_flat.proofs.EachOf.{both}
use Rattle.vl_elab_spec.specs.declared.role.Role.{Role}
use Rattle.vl_elab_spec.specs.Meanings.{Meaning, undeclared, constant, loop_variable, object, faulty, shapeless, later}
use Rattle.vl_elab_spec.specs.Meanings.{Names, is_undeclared, meaning_of, meaning_in, parameters_of}
use Rattle.vl_elab_spec.specs.Meanings.{with_parameter_meanings, with_item_constants, port_meanings, items_meanings}
use Rattle.vl_elab_spec.specs.Meanings.{scope_meanings, all_later, all_meanings}
use Rattle.vl_elab_spec.specs.Meanings.{reached}
use Rattle.vl_elab_scope.specs.Seen.{AreNamed, AllNamed}
use Rattle.vl_elab_accepted_laws.specs.Sized.{IsSound}
use Rattle.vl_elab_accepted_laws.specs.Means.{MeansIn}
use Rattle.vl_elab_accepted_laws.proofs.Entries.{names_in, object_names, FoundMeans, IsEntry, IsParameter}
use Rattle.vl_elab_accepted_laws.proofs.Entries.{AreParameters}
use Rattle.vl_elab_accepted_laws.proofs.Entries.{parameter_entries, item_constant_entries, parameter_list}
use Rattle.vl_elab_accepted_laws.proofs.Entries.{item_constant_list}
use Rattle.vl_elab_accepted_laws.proofs.Entries.{port_entries, port_list, items_entries, items_list}

-- ---- look-ups

if_same : (m n : Meaning) (b : Bool) → b ≡ false → (if b then n else m) ≡ m
if_same m n b h = ap (λ b. if b then n else m) h

module _ (s : Scope) where
  pub append_meaning : (text : List ℕ) (xs ys : Names) → Each (IsEntry s) xs
      → meaning_of (xs ++ ys) text
      ≡ (if is_undeclared (meaning_of xs text) then meaning_of ys text else meaning_of xs text)
  append_meaning text [] ys h = refl
  append_meaning text (x ∷ xs) ys h = by (bytes_eq text x.0) (append_meaning text xs ys h.1)
    where
      by : (b : Bool) → meaning_of (xs ++ ys) text
          ≡ (if is_undeclared (meaning_of xs text) then meaning_of ys text else meaning_of xs text)
          → (if b then x.1 else meaning_of (xs ++ ys) text)
          ≡ (if is_undeclared (if b then x.1 else meaning_of xs text) then meaning_of ys text
          else (if b then x.1 else meaning_of xs text))
      by true next = sym (if_same x.1 (meaning_of ys text) (is_undeclared x.1) h.0.there)
      by false next = next

  pub entry_found : (text : List ℕ) (xs : Names) → Each (IsEntry s) xs → FoundMeans s text (meaning_of xs text)
  entry_found text [] h = tt
  entry_found text (x ∷ xs) h = by (bytes_eq text x.0) refl (entry_found text xs h.1)
    where
      by : (b : Bool) → bytes_eq text x.0 ≡ b → FoundMeans s text (meaning_of xs text)
          → FoundMeans s text (if b then x.1 else meaning_of xs text)
      by true e next = subst (λ t. FoundMeans s t x.1) (sym ((bytes_eq-Decides text x.0).0 e)) h.0.means
      by false e next = next

  pub parameter_found : (text : List ℕ) (xs : Names) → Each (λ n. IsParameter s n.1) xs
      → is_undeclared (meaning_of xs text) ≡ false → IsParameter s (meaning_of xs text)
  parameter_found text [] h k = absurd (true≢false k)
  parameter_found text (x ∷ xs) h k = by (bytes_eq text x.0) k (parameter_found text xs h.1)
    where
      by : (b : Bool) → is_undeclared (if b then x.1 else meaning_of xs text) ≡ false
          → (is_undeclared (meaning_of xs text) ≡ false → IsParameter s (meaning_of xs text))
          → IsParameter s (if b then x.1 else meaning_of xs text)
      by true k next = h.0
      by false k next = next k

  -- a name that isn't listed
  pub unlisted : (text : List ℕ) (xs : Names) → Each (IsEntry s) xs → is_undeclared (meaning_of xs text) ≡ true
      → contains_name (names_in xs) text ≡ false
  unlisted text [] h k = refl
  unlisted text (x ∷ xs) h k = by (bytes_eq text x.0) k (unlisted text xs h.1)
    where
      by : (b : Bool) → is_undeclared (if b then x.1 else meaning_of xs text) ≡ true
          → (is_undeclared (meaning_of xs text) ≡ true → contains_name (names_in xs) text ≡ false)
          → (b || contains_name (names_in xs) text) ≡ false
      by true k next = absurd (true≢false (sym k ∙ h.0.there))
      by false k next = next k

  pub listed : (text : List ℕ) (xs : Names) → Each (IsEntry s) xs → is_undeclared (meaning_of xs text) ≡ false
      → contains_name (names_in xs) text ≡ true
  listed text [] h k = absurd (true≢false k)
  listed text (x ∷ xs) h k = by (bytes_eq text x.0) k (listed text xs h.1)
    where
      by : (b : Bool) → is_undeclared (if b then x.1 else meaning_of xs text) ≡ false
          → (is_undeclared (meaning_of xs text) ≡ false → contains_name (names_in xs) text ≡ true)
          → (b || contains_name (names_in xs) text) ≡ true
      by true k next = refl
      by false k next = next k

-- the constants of a scope, as they stand behind its other names
abbrev pub constant_meanings : Constants → Names
constant_meanings cs = map (λ x. (x.0, constant x.1 true)) cs

abbrev pub of_constant : Option Const → Meaning
of_constant None = undeclared
of_constant (Some c) = constant c true

constant_meaning : (text : List ℕ) (cs : Constants)
    → meaning_of (constant_meanings cs) text ≡ of_constant (constant_of cs text)
constant_meaning text [] = refl
constant_meaning text (c ∷ cs) = by (bytes_eq text c.0) (constant_meaning text cs)
  where
    by : (b : Bool) → meaning_of (constant_meanings cs) text ≡ of_constant (constant_of cs text)
        → (if b then constant c.1 true else meaning_of (constant_meanings cs) text)
        ≡ of_constant (if b then Some c.1 else constant_of cs text)
    by true h = refl
    by false h = h

-- ---- one scope

abbrev pub own_names : Contents → List (List ℕ)
own_names c = parameter_names c.parameters ++ parameters_of c.items

abbrev pub other_names : Contents → List (List ℕ)
other_names c = port_names c.ports ++ object_names c.items

-- a name that is neither a parameter nor a constant has none, and one that isn't declared has no declaration
pub record IsLaid (s : Scope) (c : Contents) : Type 0 where
  pub constants_named : (text : List ℕ) → contains_name (own_names c) text ≡ false
      → contains_name (other_names c) text ≡ true → constant_of s.constants text ≡ None
  pub decls_named : (text : List ℕ) → contains_name (other_names c) text ≡ false
      → is_declared s.decls text ≡ false

abbrev pub LevelMeans : Scope → List ℕ → Meaning → Type 0
LevelMeans s text undeclared = (constant_of s.constants text ≡ None) × (is_declared s.decls text ≡ false)
LevelMeans s text (constant c selected) = constant_of s.constants text ≡ Some c
LevelMeans s text loop_variable = Unit {0}
LevelMeans s text (object d role scalar) =
    (constant_of s.constants text ≡ None) × (declared_as s.decls text ≡ Some d)
LevelMeans s text faulty = Unit {0}
LevelMeans s text shapeless = Unit {0}
LevelMeans s text later = ⊥

no_object : (s : Scope) (m : Meaning) (d : Decl) (role : Role) (scalar : Bool) → m ≡ object d role scalar
    → IsParameter s m → ⊥
no_object s m d role scalar e h = subst (IsParameter s) e h

none_of : (o : Option Const) → is_undeclared (of_constant o) ≡ true → o ≡ None
none_of None h = refl
none_of (Some c) h = absurd (true≢false (sym h))

module _ (s : Scope) (beyond outer : List Names) (c : Contents) where
  abbrev pub own : Names
  own = with_item_constants s beyond c.overrides (all_later c)
      (with_parameter_meanings s beyond c.overrides (all_later c) [] c.parameters) c.items

  abbrev pub around : List Names
  around = (own ++ all_later c) ∷ outer

  abbrev pub ports : Names
  ports = port_meanings s outer around c.ports

  abbrev pub objects : Names
  objects = items_meanings s outer around c.items

  pub own_parameters : AreParameters s own
  own_parameters =
      item_constant_entries s beyond (all_later c) c.overrides c.items
      (with_parameter_meanings s beyond c.overrides (all_later c) [] c.parameters)
      (parameter_entries s beyond (all_later c) c.overrides c.parameters [] (record { entries = tt; kinds = tt }))

  pub own_list : names_in own ≡ own_names c
  own_list =
      item_constant_list s beyond (all_later c) c.overrides c.items
      (with_parameter_meanings s beyond c.overrides (all_later c) [] c.parameters)
      ∙ ap (λ l. l ++ parameters_of c.items)
      (parameter_list s beyond (all_later c) c.overrides c.parameters [])

  pub others : Each (IsEntry s) (ports ++ objects)
  others =
      both (IsEntry s) ports objects (port_entries s outer (all_later c) around c.ports)
      (items_entries s outer (all_later c) around c.items)

  pub map_both : (xs ys : Names) → names_in (xs ++ ys) ≡ names_in xs ++ names_in ys
  map_both [] ys = refl
  map_both (x ∷ xs) ys = ap (λ l. x.0 ∷ l) (map_both xs ys)

  pub others_list : names_in (ports ++ objects) ≡ other_names c
  others_list =
      map_both ports objects
      ∙ (λ i. port_list s outer (all_later c) around c.ports i ++ items_list s outer (all_later c) around c.items i)

  -- the names that are looked up, in two steps
  abbrev pub two_steps : List ℕ → Meaning
  two_steps text =
      let a = meaning_of own text in let b = meaning_of (ports ++ objects) text in
      let d = of_constant (constant_of s.constants text) in
      if is_undeclared a then (if is_undeclared b then d else b) else a

  regroup : (xs ys zs ws : Names) → xs ++ ys ++ zs ++ ws ≡ xs ++ (ys ++ zs ++ ws)
  regroup [] ys zs ws = refl
  regroup (x ∷ xs) ys zs ws = ap (λ l. x ∷ l) (regroup xs ys zs ws)

  pub steps_are : (text : List ℕ) → meaning_of (scope_meanings s beyond outer c) text ≡ two_steps text
  steps_are text =
      ap (λ l. meaning_of l text) (regroup own ports objects (constant_meanings s.constants))
      ∙ append_meaning s text own (ports ++ objects ++ constant_meanings s.constants) own_parameters.entries
      ∙ ap (λ m. if is_undeclared (meaning_of own text) then m else meaning_of own text)
      (append_meaning s text (ports ++ objects) (constant_meanings s.constants) others
      ∙ ap (λ d. if is_undeclared (meaning_of (ports ++ objects) text) then d
      else meaning_of (ports ++ objects) text) (constant_meaning text s.constants))

  found_constant : (text : List ℕ) (o : Option Const) → o ≡ constant_of s.constants text
      → is_declared s.decls text ≡ false → LevelMeans s text (of_constant o)
  found_constant text None e h = (sym e, h)
  found_constant text (Some k) e h = sym e

  -- of what its own list says
  from_own : (text : List ℕ) (m : Meaning) → is_undeclared m ≡ false → FoundMeans s text m → IsParameter s m
      → LevelMeans s text m
  from_own text undeclared u h k = absurd k
  from_own text (constant q selected) u h k = h
  from_own text loop_variable u h k = tt
  from_own text (object d role scalar) u h k = absurd k
  from_own text faulty u h k = tt
  from_own text shapeless u h k = absurd k
  from_own text later u h k = h

  from_others : (text : List ℕ) (m : Meaning) → is_undeclared m ≡ false → FoundMeans s text m
      → constant_of s.constants text ≡ None → LevelMeans s text m
  from_others text undeclared u h k = absurd (true≢false u)
  from_others text (constant q selected) u h k = h
  from_others text loop_variable u h k = tt
  from_others text (object d role scalar) u h k = (k, h)
  from_others text faulty u h k = tt
  from_others text shapeless u h k = tt
  from_others text later u h k = h

  pub level_means : IsLaid s c → (text : List ℕ) → LevelMeans s text (meaning_of (scope_meanings s beyond outer c) text)
  level_means laid text =
      subst (LevelMeans s text) (sym (steps_are text))
      (by (is_undeclared (meaning_of own text)) (is_undeclared (meaning_of (ports ++ objects) text)) refl refl)
    where
      not_own : is_undeclared (meaning_of own text) ≡ true → contains_name (own_names c) text ≡ false
      not_own e = ap (λ l. contains_name l text) (sym own_list) ∙ unlisted s text own own_parameters.entries e

      by : (a b : Bool) → is_undeclared (meaning_of own text) ≡ a
          → is_undeclared (meaning_of (ports ++ objects) text) ≡ b
          → LevelMeans s text (if a then (if b then of_constant (constant_of s.constants text)
          else meaning_of (ports ++ objects) text) else meaning_of own text)
      by false b e f =
          from_own text (meaning_of own text) e (entry_found s text own own_parameters.entries)
          (parameter_found s text own own_parameters.kinds e)
      by true false e f =
          from_others text (meaning_of (ports ++ objects) text) f (entry_found s text (ports ++ objects) others)
          (laid.constants_named text (not_own e)
          (ap (λ l. contains_name l text) (sym others_list) ∙ listed s text (ports ++ objects) others f))
      by true true e f =
          found_constant text (constant_of s.constants text) refl
          (laid.decls_named text
          (ap (λ l. contains_name l text) (sym others_list) ∙ unlisted s text (ports ++ objects) others f))

  -- ---- each net and variable stands under its own name

  named_entries : (ns : Names) → Each (IsEntry s) ns → (more : Names) → AreNamed more → AreNamed (ns ++ more)
  named_entries [] h more k = k
  named_entries (n ∷ ns) h more k = (h.0.named, named_entries ns h.1 more k)

  named_constants : (cs : Constants) → AreNamed (constant_meanings cs)
  named_constants [] = tt
  named_constants (k ∷ cs) = (tt, named_constants cs)

  pub level_named : AreNamed (scope_meanings s beyond outer c)
  level_named =
      subst AreNamed (sym (regroup own ports objects (constant_meanings s.constants)))
      (named_entries own own_parameters.entries (ports ++ objects ++ constant_meanings s.constants)
      (named_entries (ports ++ objects) others (constant_meanings s.constants) (named_constants s.constants)))

-- ---- scopes, one within the other

abbrev pub AreLaid : List Scope → List Contents → Type 0
AreLaid [] cs = Unit {0}
AreLaid (s ∷ ss) [] = ⊥
AreLaid (s ∷ ss) (c ∷ cs) = IsLaid s c × AreLaid ss cs

pub all_named : (ss : List Scope) (cs : List Contents) → AllNamed (all_meanings ss cs)
all_named [] cs = tt
all_named (s ∷ ss) [] = tt
all_named (s ∷ ss) (c ∷ cs) = (level_named s (reached cs c.earlier (all_meanings ss cs)) (all_meanings ss cs) c, all_named ss cs)

declared_past : (text : List ℕ) (ds es : List Decl) → is_declared ds text ≡ false
    → declared_as (ds ++ es) text ≡ declared_as es text
declared_past text [] es h = refl
declared_past text (d ∷ ds) es h = by (bytes_eq text d.name) h (declared_past text ds es)
  where
    by : (b : Bool) → (b || is_declared ds text) ≡ false
        → (is_declared ds text ≡ false → declared_as (ds ++ es) text ≡ declared_as es text)
        → cond b (Some d) (declared_as (ds ++ es) text) ≡ declared_as es text
    by true h next = absurd (true≢false h)
    by false h next = next h

declared_front : (text : List ℕ) (ds es : List Decl) (d : Decl) → declared_as ds text ≡ Some d
    → declared_as (ds ++ es) text ≡ Some d
declared_front text [] es d h = cc
declared_front text (x ∷ ds) es d h = by (bytes_eq text x.name) h (declared_front text ds es d)
  where
    by : (b : Bool) → cond b (Some x) (declared_as ds text) ≡ Some d
        → (declared_as ds text ≡ Some d → declared_as (ds ++ es) text ≡ Some d)
        → cond b (Some x) (declared_as (ds ++ es) text) ≡ Some d
    by true h next = h
    by false h next = next h

declared_here : (text : List ℕ) (ds : List Decl) (d : Decl) → declared_as ds text ≡ Some d
    → is_declared ds text ≡ true
declared_here text [] d h = cc
declared_here text (x ∷ ds) d h = by (bytes_eq text x.name) h (declared_here text ds d)
  where
    by : (b : Bool) → cond b (Some x) (declared_as ds text) ≡ Some d
        → (declared_as ds text ≡ Some d → is_declared ds text ≡ true) → (b || is_declared ds text) ≡ true
    by true h next = refl
    by false h next = next h

-- a name that the innermost scope doesn't declare
outer_means : (s : Scope) (ss : List Scope) (text : List ℕ) (m : Meaning) → constant_of s.constants text ≡ None
    → is_declared s.decls text ≡ false → MeansIn ss text m → MeansIn (s ∷ ss) text m
outer_means s ss text undeclared e h k = tt
outer_means s ss text (constant q selected) e h k =
    (λ i. constant_unless (e i) (h i) (constant_in ss text)) ∙ k
outer_means s ss text loop_variable e h k = tt
outer_means s ss text (object d role scalar) e h k = (
  (λ i. constant_unless (e i) (h i) (constant_in ss text)) ∙ k.0,
  declared_past text s.decls (visible ss) h ∙ k.1,
  k.2,
)
outer_means s ss text faulty e h k = k
outer_means s ss text shapeless e h k = k
outer_means s ss text later e h k = k

inner_means : (s : Scope) (ss : List Scope) (text : List ℕ) (m : Meaning) → LevelMeans s text m → IsSound m
    → MeansIn (s ∷ ss) text m
inner_means s ss text undeclared h k = tt
inner_means s ss text (constant q selected) h k =
    ap (λ o. constant_unless o (is_declared s.decls text) (constant_in ss text)) h
inner_means s ss text loop_variable h k = tt
inner_means s ss text (object d role scalar) h k = (
  (λ i. constant_unless (h.0 i) (declared_here text s.decls d h.1 i) (constant_in ss text)),
  declared_front text s.decls (visible ss) d h.1,
  k,
)
inner_means s ss text faulty h k = k
inner_means s ss text shapeless h k = k
inner_means s ss text later h k = h

pub all_meant : (ss : List Scope) (cs : List Contents) → AreLaid ss cs → (text : List ℕ)
    → IsSound (meaning_in (all_meanings ss cs) text) → MeansIn ss text (meaning_in (all_meanings ss cs) text)
all_meant [] cs h text k = tt
all_meant (s ∷ ss) [] h text k = absurd h
all_meant (s ∷ ss) (c ∷ cs) h text k =
    by (meaning_of (scope_meanings s beyond outer c) text) (level_means s beyond outer c h.0 text)
    k (all_meant ss cs h.1 text)
  where
    outer : List Names
    outer = all_meanings ss cs

    beyond : List Names
    beyond = reached cs c.earlier outer

    by : (m : Meaning) → LevelMeans s text m
        → IsSound (if is_undeclared m then meaning_in outer text else m)
        → (IsSound (meaning_in outer text) → MeansIn ss text (meaning_in outer text))
        → MeansIn (s ∷ ss) text (if is_undeclared m then meaning_in outer text else m)
    by undeclared l k next = outer_means s ss text (meaning_in outer text) l.0 l.1 (next k)
    by (constant q selected) l k next = inner_means s ss text (constant q selected) l k
    by loop_variable l k next = tt
    by (object d role scalar) l k next = inner_means s ss text (object d role scalar) l k
    by faulty l k next = k
    by shapeless l k next = k
    by later l k next = l
