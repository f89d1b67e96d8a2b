-- The net or variable that a name means is the first one of this name among those that are declared.
use Rattle.std.specs.Prelude.{◌≡◌, refl, ℕ, List, [], ◌∷◌, ◌++◌, Bool, true, false, bytes_eq}
use Rattle.std.specs.Prelude.{Option, Some, None}
use Rattle.std.specs.Prelude.{if◌then◌else◌, IfSome, option_to_list, Result, Ok, Err, OnOk}
use Rattle.std.proofs.Common.{ap, sym, ◌∙◌}
use Rattle.std.proofs.lemmas.Slice.Eq.{bytes_eq-Decides}
use Rattle.vl_size.specs.declared.decl.Decl.{Decl}
use Rattle.vl_size.specs.Table.{declared_as, is_declared}
use Rattle.vl_elab_spec.specs.declared.role.Role.{Role}
use Rattle.vl_elab_spec.specs.Meanings.{Meaning, undeclared, constant, loop_variable, object, faulty, shapeless, later}
use Rattle.vl_elab_spec.specs.Meanings.{Names}
use Rattle.vl_elab_spec.specs.Meanings.{is_undeclared, is_object, meaning_of, meaning_in, objects_of, objects_in}
use Rattle.vl_elab_spec.specs.Meanings.{objects}
use Rattle.vl_elab_scope.specs.Seen.{object_of, AreNamed, AllNamed}
use Rattle.vl_elab_scope.specs.Texts.{or_else}

declared_append : (ds es : List Decl) (text : List ℕ)
    → declared_as (ds ++ es) text ≡ or_else (declared_as ds text) (declared_as es text)
declared_append [] es text = refl
declared_append (d ∷ ds) es text = by (bytes_eq text d.name) (declared_append ds es text)
  where
    by : (b : Bool) → declared_as (ds ++ es) text ≡ or_else (declared_as ds text) (declared_as es text)
        → (if b then Some d else declared_as (ds ++ es) text)
        ≡ or_else (if b then Some d else declared_as ds text) (declared_as es text)
    by true h = refl
    by false h = h

module _ (all : List Names) (text : List ℕ) where
  abbrev found : Names → Option Decl
  found ns = declared_as (objects_of all ns) text

  -- one more name of a scope
  step : (n : List ℕ) (d : Decl) (ns : Names) → d.name ≡ n
      → (rest : Option Decl) → found ns ≡ rest
      → declared_as (if is_object (meaning_in all n) then d ∷ objects_of all ns else objects_of all ns) text
      ≡ (if is_object (meaning_in all n) then (if bytes_eq text n then Some d else rest) else rest)
  step n d ns named rest h = by (is_object (meaning_in all n))
    where
      by : (b : Bool) → declared_as (if b then d ∷ objects_of all ns else objects_of all ns) text
          ≡ (if b then (if bytes_eq text n then Some d else rest) else rest)
      by true = λ i. if bytes_eq text (named i) then Some d else h i
      by false = h

  same_name : (n : List ℕ) → bytes_eq text n ≡ true → text ≡ n
  same_name n h = (bytes_eq-Decides text n).0 h

  -- a name that means no object has none
  none_of : (ns : Names) → AreNamed ns → is_object (meaning_in all text) ≡ false → found ns ≡ None
  none_of [] h k = refl
  none_of ((n, undeclared) ∷ ns) h k = absurd h.0
  none_of ((n, constant c selected) ∷ ns) h k = none_of ns h.1 k
  none_of ((n, loop_variable) ∷ ns) h k = none_of ns h.1 k
  none_of ((n, faulty) ∷ ns) h k = none_of ns h.1 k
  none_of ((n, shapeless) ∷ ns) h k = none_of ns h.1 k
  none_of ((n, later) ∷ ns) h k = none_of ns h.1 k
  none_of ((n, object d role scalar) ∷ ns) h k =
      step n d ns h.0 None (none_of ns h.1 k)
      ∙ by (bytes_eq text n) (is_object (meaning_in all n)) (same_name n)
      (λ e. sym (ap (λ t. is_object (meaning_in all t)) e) ∙ k)
    where
      by : (b c : Bool) → (b ≡ true → text ≡ n) → (text ≡ n → c ≡ false)
          → (if c then (if b then Some d else None) else None) ≡ None
      by true c f g = ap (λ x. if x then (if true then Some d else None) else None) (g (f refl))
      by false true f g = refl
      by false false f g = refl

  none_in : (ls : List Names) → AllNamed ls → is_object (meaning_in all text) ≡ false
      → declared_as (objects_in all ls) text ≡ None
  none_in [] h k = refl
  none_in (ns ∷ ls) h k =
      declared_append (objects_of all ns) (objects_in all ls) text
      ∙ (λ i. or_else (none_of ns h.0 k i) (none_in ls h.1 k i))

  -- a name that stands before is another one
  skip : (n : List ℕ) (m : Meaning) (ns : Names) (r : Option Decl) → AreNamed ((n, m) ∷ ns)
      → bytes_eq text n ≡ false
      → found ns ≡ r → found ((n, m) ∷ ns) ≡ r
  skip n undeclared ns r h e k = absurd h.0
  skip n (constant c selected) ns r h e k = k
  skip n loop_variable ns r h e k = k
  skip n faulty ns r h e k = k
  skip n shapeless ns r h e k = k
  skip n later ns r h e k = k
  skip n (object d role scalar) ns r h e k =
      step n d ns h.0 r k ∙ ap (λ b. if is_object (meaning_in all n) then (if b then Some d else r) else r) e
      ∙ both (is_object (meaning_in all n))
    where
      both : (b : Bool) → (if b then r else r) ≡ r
      both true = refl
      both false = refl

  -- in a scope that doesn't declare it there is none
  unseen : (ns : Names) → AreNamed ns → meaning_of ns text ≡ undeclared → found ns ≡ None
  unseen [] h k = refl
  unseen ((n, m) ∷ ns) h k = by (bytes_eq text n) refl k (λ k. unseen ns h.1 k)
    where
      here : (m : Meaning) → AreNamed ((n, m) ∷ ns) → m ≡ undeclared → found ((n, m) ∷ ns) ≡ None
      here undeclared h k = absurd h.0
      here (constant c selected) h k = cc
      here loop_variable h k = cc
      here faulty h k = cc
      here shapeless h k = cc
      here later h k = cc
      here (object d role scalar) h k = cc

      by : (b : Bool) → bytes_eq text n ≡ b → (if b then m else meaning_of ns text) ≡ undeclared
          → (meaning_of ns text ≡ undeclared → found ns ≡ None) → found ((n, m) ∷ ns) ≡ None
      by true e k f = here m h k
      by false e k f = skip n m ns None h e (f k)

  -- in one that declares it as an object there is this one
  seen_object : (ns : Names) (d : Decl) (role : Role) (scalar : Bool) → AreNamed ns
      → is_object (meaning_in all text) ≡ true
      → meaning_of ns text ≡ object d role scalar → found ns ≡ Some d
  seen_object [] d role scalar h p k = cc
  seen_object ((n, m) ∷ ns) d role scalar h p k =
      by (bytes_eq text n) refl k (λ k. seen_object ns d role scalar h.1 p k)
    where
      here : (m : Meaning) → AreNamed ((n, m) ∷ ns) → bytes_eq text n ≡ true → m ≡ object d role scalar
          → found ((n, m) ∷ ns) ≡ Some d
      here undeclared h e k = absurd h.0
      here (constant c selected) h e k = cc
      here loop_variable h e k = cc
      here faulty h e k = cc
      here shapeless h e k = cc
      here later h e k = cc
      here (object x i s) h e k =
          let same : x ≡ d = cc in
          let there : is_object (meaning_in all n) ≡ true =
          sym (ap (λ t. is_object (meaning_in all t)) (same_name n e)) ∙ p in
          step n x ns h.0 (found ns) refl
          ∙ (λ j. if there j then (if e j then Some (same j) else found ns) else found ns)

      by : (b : Bool) → bytes_eq text n ≡ b → (if b then m else meaning_of ns text) ≡ object d role scalar
          → (meaning_of ns text ≡ object d role scalar → found ns ≡ Some d)
          → found ((n, m) ∷ ns) ≡ Some d
      by true e k f = here m h e k
      by false e k f = skip n m ns (Some d) h e (f k)

  some_in : (ls : List Names) (d : Decl) (role : Role) (scalar : Bool) → AllNamed ls
      → is_object (meaning_in all text) ≡ true
      → meaning_in ls text ≡ object d role scalar → declared_as (objects_in all ls) text ≡ Some d
  some_in [] d role scalar h p k = cc
  some_in (ns ∷ ls) d role scalar h p k =
      declared_append (objects_of all ns) (objects_in all ls) text ∙ by (meaning_of ns text) refl k
      (λ k. some_in ls d role scalar h.1 p k)
    where
      by : (m : Meaning) → meaning_of ns text ≡ m
          → (if is_undeclared m then meaning_in ls text else m) ≡ object d role scalar
          → (meaning_in ls text ≡ object d role scalar → declared_as (objects_in all ls) text ≡ Some d)
          → or_else (found ns) (declared_as (objects_in all ls) text) ≡ Some d
      by undeclared e k f = λ i. or_else (unseen ns h.0 e i) (f k i)
      by (constant c selected) e k f = cc
      by loop_variable e k f = cc
      by faulty e k f = cc
      by shapeless e k f = cc
      by later e k f = cc
      by (object x i s) e k f =
          ap (λ o. or_else o (declared_as (objects_in all ls) text)) (seen_object ns d role scalar h.0 p (e ∙ k))

pub object_is : (ns : List Names) (text : List ℕ) → AllNamed ns
    → declared_as (objects ns) text ≡ object_of (meaning_in ns text)
object_is ns text h = by (meaning_in ns text) refl
  where
    by : (m : Meaning) → meaning_in ns text ≡ m → declared_as (objects ns) text ≡ object_of m
    by undeclared e = none_in ns text ns h (ap is_object e)
    by (constant c selected) e = none_in ns text ns h (ap is_object e)
    by loop_variable e = none_in ns text ns h (ap is_object e)
    by faulty e = none_in ns text ns h (ap is_object e)
    by shapeless e = none_in ns text ns h (ap is_object e)
    by later e = none_in ns text ns h (ap is_object e)
    by (object d role scalar) e = some_in ns text ns d role scalar h (ap is_object e) e

-- ---- what is declared under a name

named_of : (ns : Names) (text : List ℕ) (d : Decl) (role : Role) (scalar : Bool) → AreNamed ns
    → meaning_of ns text ≡ object d role scalar → d.name ≡ text
named_of [] text d role scalar h k = cc
named_of ((n, m) ∷ ns) text d role scalar h k =
    by (bytes_eq text n) refl k (λ k. named_of ns text d role scalar h.1 k)
  where
    here : (m : Meaning) → AreNamed ((n, m) ∷ ns) → m ≡ object d role scalar → d.name ≡ n
    here undeclared h k = absurd h.0
    here (constant c selected) h k = cc
    here loop_variable h k = cc
    here faulty h k = cc
    here shapeless h k = cc
    here later h k = cc
    here (object x i s) h k = let same : x ≡ d = cc in sym (ap (λ d. d.name) same) ∙ h.0

    by : (b : Bool) → bytes_eq text n ≡ b → (if b then m else meaning_of ns text) ≡ object d role scalar
        → (meaning_of ns text ≡ object d role scalar → d.name ≡ text) → d.name ≡ text
    by true e k f = here m h k ∙ sym ((bytes_eq-Decides text n).0 e)
    by false e k f = f k

pub meaning_named : (ls : List Names) (text : List ℕ) (d : Decl) (role : Role) (scalar : Bool) → AllNamed ls
    → meaning_in ls text ≡ object d role scalar → d.name ≡ text
meaning_named [] text d role scalar h k = cc
meaning_named (ns ∷ ls) text d role scalar h k =
    by (meaning_of ns text) refl k (λ k. meaning_named ls text d role scalar h.1 k)
  where
    by : (m : Meaning) → meaning_of ns text ≡ m
        → (if is_undeclared m then meaning_in ls text else m) ≡ object d role scalar
        → (meaning_in ls text ≡ object d role scalar → d.name ≡ text) → d.name ≡ text
    by undeclared e k f = f k
    by (constant c selected) e k f = cc
    by loop_variable e k f = cc
    by faulty e k f = cc
    by shapeless e k f = cc
    by later e k f = cc
    by (object x i s) e k f = named_of ns text d role scalar h.0 (e ∙ k)

pub object_fresh : (ls : List Names) (text : List ℕ) (m : Meaning) (ds : List Decl) → AllNamed ls
    → m ≡ meaning_in ls text → is_declared ds text ≡ false
    → IfSome (object_of m) (λ d. is_declared ds d.name ≡ false)
object_fresh ls text undeclared ds h e k = tt
object_fresh ls text (constant c selected) ds h e k = tt
object_fresh ls text loop_variable ds h e k = tt
object_fresh ls text faulty ds h e k = tt
object_fresh ls text shapeless ds h e k = tt
object_fresh ls text later ds h e k = tt
object_fresh ls text (object d role scalar) ds h e k =
    ap (is_declared ds) (meaning_named ls text d role scalar h (sym e)) ∙ k

-- what is declared, once the object that a name means is added
pub object_added : (ls : List Names) (text other : List ℕ) (m : Meaning) (ds new : List Decl) → AllNamed ls
    → m ≡ meaning_in ls text → new ≡ ds ++ option_to_list (object_of m)
    → declared_as new other
    ≡ (if bytes_eq other text then or_else (declared_as ds other) (declared_as (objects ls) other)
    else declared_as ds other)
object_added ls text other m ds new h e made =
    ap (λ l. declared_as l other) made ∙ declared_append ds (option_to_list (object_of m)) other
    ∙ by (bytes_eq other text) refl
  where
    -- the tail at another name, and at this one
    alone : (m : Meaning) → m ≡ meaning_in ls text → bytes_eq other text ≡ false
        → declared_as (option_to_list (object_of m)) other ≡ None
    alone undeclared e k = refl
    alone (constant c selected) e k = refl
    alone loop_variable e k = refl
    alone faulty e k = refl
    alone shapeless e k = refl
    alone later e k = refl
    alone (object d role scalar) e k =
        ap (λ n. if bytes_eq other n then Some d else None) (meaning_named ls text d role scalar h (sym e))
        ∙ ap (λ b. if b then Some d else None) k

    itself : (m : Meaning) → m ≡ meaning_in ls text → bytes_eq other text ≡ true
        → declared_as (option_to_list (object_of m)) other ≡ object_of m
    itself undeclared e k = refl
    itself (constant c selected) e k = refl
    itself loop_variable e k = refl
    itself faulty e k = refl
    itself shapeless e k = refl
    itself later e k = refl
    itself (object d role scalar) e k =
        ap (λ n. if bytes_eq other n then Some d else None) (meaning_named ls text d role scalar h (sym e))
        ∙ ap (λ b. if b then Some d else None) k

    end : (x : Option Decl) → or_else x None ≡ x
    end None = refl
    end (Some x) = refl

    by : (b : Bool) → bytes_eq other text ≡ b
        → or_else (declared_as ds other) (declared_as (option_to_list (object_of m)) other)
        ≡ (if b then or_else (declared_as ds other) (declared_as (objects ls) other) else declared_as ds other)
    by true k =
        ap (or_else (declared_as ds other)) (itself m e k ∙ ap object_of e
        ∙ ap (λ t. object_of (meaning_in ls t)) (sym ((bytes_eq-Decides other text).0 k))
        ∙ sym (object_is ls other h))
    by false k = ap (or_else (declared_as ds other)) (alone m e k) ∙ end (declared_as ds other)

no_more : (ds : List Decl) → ds ≡ ds ++ []
no_more [] = refl
no_more (d ∷ ds) = ap (λ l. d ∷ l) (no_more ds)

pub none_added : (ls : List Names) (text other : List ℕ) (ds : List Decl) → AllNamed ls
    → undeclared ≡ meaning_in ls text
    → declared_as ds other
    ≡ (if bytes_eq other text then or_else (declared_as ds other) (declared_as (objects ls) other)
    else declared_as ds other)
none_added ls text other ds h e = object_added ls text other undeclared ds ds h e (no_more ds)

pub on_ok : {A F : Type 0} (r : Result A F) (P Q : Type 0) → (P → Q) → OnOk r P → OnOk r Q
on_ok (Ok x) P Q f h = f h
on_ok (Err x) P Q f h = h
