-- Constants in a table.
use Rattle.std.specs.Prelude.{◌≡◌, refl, ℕ, List, [], ◌∷◌, ◌++◌, Bool, true, false, bytes_eq, length}
use Rattle.std.specs.Prelude.{Option, Some, None, Vec, is_some, not, Result, Ok, Err, OnOk, OnErr, if◌then◌else◌}
use Rattle.std.specs.declared.alloc.Global.{Global}
use Rattle.std.specs.Map.{lookup}
use Rattle.std.proofs.Common.{ap, sym, ◌∙◌, arith}
use Rattle.vl_mean.specs.declared.const_number.Const.{Const}
use Rattle.vl_mean.specs.Constants.{Constants, constant_of}
use Rattle.vl_elab_draft.specs.declared.named.Named.{Named}
use Rattle.vl_elab_draft.specs.Kept.{Entry, constants_of, constants_from, AreBehind}

pub lookup_constant : (text : List ℕ) (es : List Entry)
    → lookup (λ key. bytes_eq text key.items) es ≡ constant_of (constants_of es) text
lookup_constant text [] = refl
lookup_constant text (e ∷ es) =
    ap (λ o. if bytes_eq text e.0.items then Some e.1 else o) (lookup_constant text es)

pub none_kept : (text : List ℕ) (es : List Entry) → length es ≡ 0 → None ≡ constant_of (constants_of es) text
none_kept text [] h = refl
none_kept text (e ∷ es) h = absurd (omega (arith, h))

none_of_others : (o : Option Named) (es : List Entry) (text : List ℕ)
    → constant_of (constants_from o es) text ≡ None → constant_of (constants_of es) text ≡ None
none_of_others None es text h = h
none_of_others (Some n) es text h = by (bytes_eq text n.text) h
  where
    by : (b : Bool) → (if b then Some n.value else constant_of (constants_of es) text) ≡ None
        → constant_of (constants_of es) text ≡ None
    by true h = cc
    by false h = h

-- one that isn't there yet
pub no_constant : (o : Option Named) (es : List Entry) (text key : List ℕ)
    → constant_of (constants_from o es) text ≡ None → key ≡ text → lookup (λ k. bytes_eq key k.items) es ≡ None
no_constant o es text key h k =
    ap (λ n. lookup (λ k. bytes_eq n k.items) es) k ∙ lookup_constant text es ∙ none_of_others o es text h

pub first_constant : (o : Option Named) (es : List Entry) (n : Named) (b : Bool) → AreBehind o es → is_some o ≡ not b
    → b ≡ true → constants_from (Some n) es ≡ constants_from o es ++ (n.text, n.value) ∷ []
first_constant None es n b h e k =
    (λ i. (n.text, n.value) ∷ constants_of (h i)) ∙ (λ i. constants_of (sym h i) ++ (n.text, n.value) ∷ [])
first_constant (Some x) es n b h e k = let no : true ≡ false = e ∙ ap not k in cc

append_constants : (es : List Entry) (e : Entry)
    → constants_of (es ++ e ∷ []) ≡ constants_of es ++ (e.0.items, e.1) ∷ []
append_constants [] e = refl
append_constants (x ∷ es) e = ap (λ cs. (x.0.items, x.1) ∷ cs) (append_constants es e)

append_behind : (o : Option Named) (es : List Entry) (e : Entry)
    → constants_from o (es ++ e ∷ []) ≡ constants_from o es ++ (e.0.items, e.1) ∷ []
append_behind None es e = append_constants es e
append_behind (Some n) es e = ap (λ cs. (n.text, n.value) ∷ cs) (append_constants es e)

pub constant_added : {A E : Type 0} (r : Result A E) (o : Option Named) (old new : List Entry) (key : Vec ℕ Global)
    (c : Const) (text : List ℕ) → key.items ≡ text → OnOk r (new ≡ old ++ (key, c) ∷ [])
    → OnOk r (constants_from o new ≡ constants_from o old ++ (text, c) ∷ [])
constant_added (Ok x) o old new key c text k made =
    ap (constants_from o) made ∙ append_behind o old (key, c) ∙ ap (λ t. constants_from o old ++ (t, c) ∷ []) k
constant_added (Err x) o old new key c text k made = made

pub none_added : {A E : Type 0} (r : Result A E) (o : Option Named) (old new : List Entry) → OnErr r (new ≡ old)
    → OnErr r (constants_from o new ≡ constants_from o old)
none_added (Ok x) o old new h = h
none_added (Err x) o old new h = ap (constants_from o) h

-- behind a first one anything may stand
pub stay_behind : (o : Option Named) (es : List Entry) (b : Bool) → is_some o ≡ not b → b ≡ false → AreBehind o es
stay_behind None es b e k = let no : false ≡ true = e ∙ ap not k in cc
stay_behind (Some n) es b e k = tt

pub ok_added : {A E : Type 0} (r : Result A E) (old seen new : Constants) (text : List ℕ) (c : Const) → old ≡ seen
    → OnOk r (new ≡ old ++ (text, c) ∷ []) → OnOk r (new ≡ seen ++ (text, c) ∷ [])
ok_added (Ok x) old seen new text c e h = h ∙ ap (λ cs. cs ++ (text, c) ∷ []) e
ok_added (Err x) old seen new text c e h = h

pub err_added : {A E : Type 0} (r : Result A E) (old seen new : Constants) → old ≡ seen → OnErr r (new ≡ old)
    → OnErr r (new ≡ seen)
err_added (Ok x) old seen new e h = h
err_added (Err x) old seen new e h = h ∙ e
