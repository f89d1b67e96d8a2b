-- A scope with a name more.
use Rattle.std.specs.Prelude.{◌≡◌, refl, ℕ, List, [], ◌∷◌, ◌++◌, Bool, true, false, bytes_eq}
use Rattle.std.specs.Prelude.{Option, Some, None, Vec}
use Rattle.std.specs.Prelude.{if◌then◌else◌, is_some, Result, Ok, Err, OnOk, OnErr}
use Rattle.std.specs.declared.alloc.Global.{Global}
use Rattle.std.specs.Map.{lookup}
use Rattle.std.specs.Option.{option_copied}
use Rattle.std.proofs.Common.{ap, sym, ◌∙◌, subst, Bor}
use Rattle.vl_size.proofs.Entries.{copied_some}
use Rattle.vl_elab_spec.specs.Meanings.{Meaning, Names, is_undeclared, meaning_of}
use Rattle.vl_elab_scope.specs.declared.meaning.Meaning.{Meaning as Kept}
use Rattle.vl_elab_scope.specs.declared.meaning.Named.{Named}
use Rattle.vl_elab_scope.specs.Seen.{Entry, seen, seen_or, names_of, names_from, with_name, IsNamed, AreNamed}
use Rattle.vl_elab_scope.proofs.Levels.{lookup_seen, seen_declared}

append_names : (es : List Entry) (e : Entry)
    → names_of (es ++ e ∷ []) ≡ names_of es ++ (e.0.items, seen e.1) ∷ []
append_names [] e = refl
append_names (x ∷ es) e = ap (λ ns. (x.0.items, seen x.1) ∷ ns) (append_names es e)

found : (o : Option Kept) → is_some o ≡ true → is_undeclared (seen_or o) ≡ false
found None h = cc
found (Some m) h = seen_declared m

gone : (o : Option Kept) → o ≡ None → is_undeclared (seen_or o) ≡ true
gone o h = ap (λ o. is_undeclared (seen_or o)) h

none_of : (o : Option Kept) → is_some o ≡ false → o ≡ None
none_of None h = refl
none_of (Some m) h = cc

-- one that is there already
pub name_kept : (ns : Names) (text : List ℕ) (m : Meaning) (r : Option (Bor Kept)) (b : Bool)
    → seen_or (option_copied r) ≡ meaning_of ns text → b ≡ is_some r → b ≡ true → ns ≡ with_name ns text m
name_kept ns text m r b h e k =
    let there = sym (ap is_undeclared h) ∙ found (option_copied r) (sym (copied_some r) ∙ sym e ∙ k) in
    ap (λ b. if b then ns ++ (text, m) ∷ [] else ns) (sym there)

-- one that isn't
absent : (ns : Names) (text : List ℕ) (r : Option (Bor Kept)) (b : Bool)
    → seen_or (option_copied r) ≡ meaning_of ns text → b ≡ is_some r → b ≡ false
    → is_undeclared (meaning_of ns text) ≡ true
absent ns text r b h e k =
    sym (ap is_undeclared h) ∙ gone (option_copied r) (none_of (option_copied r) (sym (copied_some r) ∙ sym e ∙ k))

none_seen : (o : Option Kept) → is_undeclared (seen_or o) ≡ true → o ≡ None
none_seen None h = refl
none_seen (Some m) h = let no : false ≡ true = sym (seen_declared m) ∙ h in cc

none_among : (n : Named) (es : List Entry) (text : List ℕ)
    → is_undeclared (meaning_of (names_from n es) text) ≡ true
    → is_undeclared (meaning_of (names_of es) text) ≡ true
none_among n es text h = by (bytes_eq text n.text) h
  where
    by : (b : Bool) → is_undeclared (if b then seen n.meaning else meaning_of (names_of es) text) ≡ true
        → is_undeclared (meaning_of (names_of es) text) ≡ true
    by true h = let no : false ≡ true = sym (seen_declared n.meaning) ∙ h in cc
    by false h = h

-- it has no key
pub no_key : (f : Named) (es : List Entry) (text key : List ℕ) (r : Option (Bor Kept)) (b : Bool)
    → seen_or (option_copied r) ≡ meaning_of (names_from f es) text → b ≡ is_some r → b ≡ false → key ≡ text
    → lookup (λ k. bytes_eq key k.items) es ≡ None
no_key f es text key r b h e k n =
    ap (λ n. lookup (λ k. bytes_eq n k.items) es) n
    ∙ none_seen (lookup (λ k. bytes_eq text k.items) es) (ap is_undeclared (lookup_seen text es)
    ∙ none_among f es text (absent (names_from f es) text r b h e k))

append_behind : (f : Named) (es : List Entry) (e : Entry)
    → names_from f (es ++ e ∷ []) ≡ names_from f es ++ (e.0.items, seen e.1) ∷ []
append_behind f es e = ap (λ ns. (f.text, seen f.meaning) ∷ ns) (append_names es e)

pub name_added : {A E : Type 0} (r : Result A E) (f : Named) (old new : List Entry) (key : Vec ℕ Global)
    (m : Kept) (text : List ℕ) (x : Option (Bor Kept)) (b : Bool)
    → seen_or (option_copied x) ≡ meaning_of (names_from f old) text → b ≡ is_some x → b ≡ false → key.items ≡ text
    → OnOk r (new ≡ old ++ (key, m) ∷ [])
    → OnOk r (names_from f new ≡ with_name (names_from f old) text (seen m))
name_added (Ok y) f old new key m text x b h e k n made =
    ap (names_from f) made ∙ append_behind f old (key, m)
    ∙ ap (λ t. names_from f old ++ (t, seen m) ∷ []) n
    ∙ ap (λ b. if b then names_from f old ++ (text, seen m) ∷ [] else names_from f old)
    (sym (absent (names_from f old) text x b h e k))
name_added (Err y) f old new key m text x b h e k n made = made

pub none_added : {A E : Type 0} (r : Result A E) (f : Named) (old new : List Entry) → OnErr r (new ≡ old)
    → OnErr r (names_from f new ≡ names_from f old)
none_added (Ok y) f old new h = h
none_added (Err y) f old new h = ap (names_from f) h

named_append : (ns : Names) (text : List ℕ) (m : Meaning) → AreNamed ns → IsNamed (text, m)
    → AreNamed (ns ++ (text, m) ∷ [])
named_append [] text m h k = (k, tt)
named_append (n ∷ ns) text m h k = (h.0, named_append ns text m h.1 k)

named_with : (ns : Names) (text : List ℕ) (m : Meaning) (b : Bool) → AreNamed ns → IsNamed (text, m)
    → AreNamed (if b then ns ++ (text, m) ∷ [] else ns)
named_with ns text m true h k = named_append ns text m h k
named_with ns text m false h k = h

pub named_added : {A E : Type 0} (r : Result A E) (old new : Names) (text : List ℕ) (m : Meaning) → AreNamed old
    → IsNamed (text, m) → OnOk r (new ≡ with_name old text m) → OnErr r (new ≡ old) → AreNamed new
named_added (Ok x) old new text m h k p q =
    subst AreNamed (sym p) (named_with old text m (is_undeclared (meaning_of old text)) h k)
named_added (Err x) old new text m h k p q = subst AreNamed (sym q) h

pub ok_added : {A E : Type 0} (r : Result A E) (old seen new : Names) (text : List ℕ) (m : Meaning) → old ≡ seen
    → OnOk r (new ≡ with_name old text m) → OnOk r (new ≡ with_name seen text m)
ok_added (Ok x) old seen new text m e h = h ∙ ap (λ ns. with_name ns text m) e
ok_added (Err x) old seen new text m e h = h

pub err_added : {A E : Type 0} (r : Result A E) (old seen new : Names) → old ≡ seen → OnErr r (new ≡ old)
    → OnErr r (new ≡ seen)
err_added (Ok x) old seen new e h = h
err_added (Err x) old seen new e h = h ∙ e
