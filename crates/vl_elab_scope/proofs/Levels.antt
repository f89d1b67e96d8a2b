-- What names mean in scopes that are kept, the innermost last.
use Rattle.std.specs.Prelude.{◌≡◌, refl, ℕ, List, [], ◌∷◌, ◌++◌, length, Bool, true, false}
use Rattle.std.specs.Prelude.{bytes_eq, Some, None}
use Rattle.std.specs.Prelude.{if◌then◌else◌, take, drop, ◌-◌, ◌+◌, Option, option_to_list}
use Rattle.std.specs.Map.{lookup}
use Rattle.std.specs.Prelude.{Result, Ok, Err, OnOk, OnErr, MatchOption}
use Rattle.std.proofs.Common.{ap, sym, ◌∙◌, subst, arith, append_assoc, length-append, length-drop, take-append-drop}
use Rattle.std.proofs.lemmas.List.{drop_at, take_at}
use Rattle.vl_elab_spec.specs.Meanings.{Meaning, undeclared, Names, is_undeclared, meaning_of, meaning_in}
use Rattle.vl_elab_scope.specs.declared.meaning.Meaning.{Meaning as Kept}
use Rattle.vl_elab_scope.specs.declared.meaning.Meaning.TheVariants as k
use Rattle.vl_elab_scope.specs.Seen.{Entry, seen, seen_or, names_of, inward, innermost, names_or, AreNamed, AllNamed}

pub inward_last : (ls : List Names) (l : Names) → inward (ls ++ l ∷ []) ≡ l ∷ inward ls
inward_last [] l = refl
inward_last (x ∷ ls) l = ap (λ ns. ns ++ x ∷ []) (inward_last ls l)

pub lookup_seen : (text : List ℕ) (es : List Entry)
    → seen_or (lookup (λ key. bytes_eq text key.items) es) ≡ meaning_of (names_of es) text
lookup_seen text [] = refl
lookup_seen text (e ∷ es) = by (bytes_eq text e.0.items) (lookup_seen text es)
  where
    by : (b : Bool) → seen_or (lookup (λ key. bytes_eq text key.items) es) ≡ meaning_of (names_of es) text
        → seen_or (if b then Some e.1 else lookup (λ key. bytes_eq text key.items) es)
        ≡ (if b then seen e.1 else meaning_of (names_of es) text)
    by true h = refl
    by false h = h

pub none_seen_among : (text : List ℕ) (es : List Entry) → length es ≡ 0 → undeclared ≡ meaning_of (names_of es) text
none_seen_among text [] h = refl
none_seen_among text (e ∷ es) h = absurd (omega (arith, h))

pub seen_declared : (m : Kept) → is_undeclared (seen m) ≡ false
seen_declared (k.Constant c selected) = refl
seen_declared k.LoopVariable = refl
seen_declared (k.Object o) = refl
seen_declared k.Faulty = refl
seen_declared k.Shapeless = refl
seen_declared k.Later = refl

abbrev inner_or : Meaning → Meaning → Meaning
inner_or here around = if is_undeclared here then around else here

meaning_last : (all rest : List Names) (l : Names) (text : List ℕ) → all ≡ rest ++ l ∷ []
    → meaning_in (inward all) text ≡ inner_or (meaning_of l text) (meaning_in (inward rest) text)
meaning_last all rest l text e = ap (λ ns. meaning_in ns text) (ap inward e ∙ inward_last rest l)

-- the last one declares the name
pub found_here : (all rest : List Names) (l : Names) (text : List ℕ) (m : Kept) → all ≡ rest ++ l ∷ []
    → seen m ≡ meaning_of l text → seen m ≡ meaning_in (inward all) text
found_here all rest l text m e h =
    ap (λ b. if b then meaning_in (inward rest) text else seen m) (sym (seen_declared m))
    ∙ ap (λ x. inner_or x (meaning_in (inward rest) text)) h ∙ sym (meaning_last all rest l text e)

-- the last one doesn't
pub found_around : (all rest : List Names) (l : Names) (text : List ℕ) (m : Meaning) → all ≡ rest ++ l ∷ []
    → undeclared ≡ meaning_of l text → m ≡ meaning_in (inward rest) text → m ≡ meaning_in (inward all) text
found_around all rest l text m e h k =
    k ∙ ap (λ x. inner_or x (meaning_in (inward rest) text)) h ∙ sym (meaning_last all rest l text e)

pub ruleset levels = (found_here, found_around)

-- ---- scopes that are entered and left

all_named_last : (ls : List Names) (l : Names) → AllNamed (inward ls) → AreNamed l
    → AllNamed (inward (ls ++ l ∷ []))
all_named_last ls l h k = subst AllNamed (sym (inward_last ls l)) (k, h)

pub entered : {A E : Type 0} (r : Result A E) (old new all : List Names) (l : Names) → inward old ≡ all
    → OnOk r (new ≡ old ++ l ∷ []) → OnOk r (inward new ≡ l ∷ all)
entered (Ok x) old new all l e h = ap inward h ∙ inward_last old l ∙ ap (λ ls. l ∷ ls) e
entered (Err x) old new all l e h = h

pub not_entered : {A E : Type 0} (r : Result A E) (old new all : List Names) → inward old ≡ all
    → OnErr r (new ≡ old) → OnErr r (inward new ≡ all)
not_entered (Ok x) old new all e h = h
not_entered (Err x) old new all e h = ap inward h ∙ e

pub named_entered : {A E : Type 0} (r : Result A E) (old new : List Names) (l : Names) → AllNamed (inward old)
    → AreNamed l → OnOk r (new ≡ old ++ l ∷ []) → OnErr r (new ≡ old) → AllNamed (inward new)
named_entered (Ok x) old new l h k p q = subst (λ ls. AllNamed (inward ls)) (sym p) (all_named_last old l h k)
named_entered (Err x) old new l h k p q = subst (λ ls. AllNamed (inward ls)) (sym q) h

no_more : (ls : List Names) → ls ++ [] ≡ ls
no_more [] = refl
no_more (l ∷ ls) = ap (λ ls. l ∷ ls) (no_more ls)

empty_inward : (ls : List Names) → length ls ≡ 0 → inward ls ≡ drop 1 (inward ls)
empty_inward [] h = refl
empty_inward (l ∷ ls) h = absurd (omega (arith, h))

pub left : (old new : List Names) (r : Option Names) → old ≡ new ++ option_to_list r
    → (r ≡ None → length old ≡ 0)
    → inward new ≡ drop 1 (inward old)
left old new None e h = ap inward (sym (e ∙ no_more new)) ∙ empty_inward old (h refl)
left old new (Some l) e h = ap (drop 1) (sym (ap inward e ∙ inward_last new l))

taken : (old new : List Names) (l : Names) → old ≡ new ++ l ∷ [] → l ≡ innermost (inward old)
taken old new l e = sym (ap innermost (ap inward e ∙ inward_last new l))

none_innermost : (ls : List Names) → length ls ≡ 0 → [] ≡ innermost (inward ls)
none_innermost [] h = refl
none_innermost (l ∷ ls) h = absurd (omega (arith, h))

pub last_taken : (old new : List Names) (r : Option Names) → old ≡ new ++ option_to_list r
    → (r ≡ None → length old ≡ 0) → names_or r ≡ innermost (inward old)
last_taken old new None e h = none_innermost old (h refl)
last_taken old new (Some l) e h = taken old new l e

named_rest : (ls : List Names) → AllNamed ls → AllNamed (drop 1 ls)
named_rest [] h = tt
named_rest (l ∷ ls) h = h.1

pub named_left : (old new : List Names) → inward new ≡ drop 1 (inward old) → AllNamed (inward old)
    → AllNamed (inward new)
named_left old new e h = subst AllNamed (sym e) (named_rest (inward old) h)

pub none_empty : {A : Type 0} (r : Option A) (P : Type 0) (Q : A → Type 0) → MatchOption r P Q → r ≡ None → P
none_empty None P Q h e = h
none_empty (Some x) P Q h e = cc

-- ---- several scopes that are entered and left

pub inward_append : (ls ms : List Names) → inward (ls ++ ms) ≡ inward ms ++ inward ls
inward_append [] ms = sym (no_more (inward ms))
inward_append (l ∷ ls) ms =
    ap (λ ns. ns ++ l ∷ []) (inward_append ls ms) ∙ append_assoc (inward ms) (inward ls) (l ∷ [])

pub inward_length : (ls : List Names) → length (inward ls) ≡ length ls
inward_length [] = refl
inward_length (l ∷ ls) =
    length-append (inward ls) (l ∷ []) ∙ (let e = inward_length ls in omega (arith, e))

all_named_both : (ns ms : List Names) → AllNamed ns → AllNamed ms → AllNamed (ns ++ ms)
all_named_both [] ms h k = k
all_named_both (n ∷ ns) ms h k = (h.0, all_named_both ns ms h.1 k)

all_named_front : (ns ms : List Names) → AllNamed (ns ++ ms) → AllNamed ns
all_named_front [] ms h = tt
all_named_front (n ∷ ns) ms h = (h.0, all_named_front ns ms h.1)

all_named_back : (ns ms : List Names) → AllNamed (ns ++ ms) → AllNamed ms
all_named_back [] ms h = h
all_named_back (n ∷ ns) ms h = all_named_back ns ms h.1

pub laid : (old others new : List Names) → new ≡ old ++ others → inward new ≡ inward others ++ inward old
laid old others new e = ap inward e ∙ inward_append old others

pub laid_named : (old others new : List Names) → AllNamed (inward old) → AllNamed (inward others) → new ≡ old ++ others
    → AllNamed (inward new)
laid_named old others new h k p =
    subst AllNamed (sym (laid old others new p)) (all_named_both (inward others) (inward old) k h)

pub named_laid : {A E : Type 0} (r : Result A E) (old others new left : List Names) → AllNamed (inward old)
    → AllNamed (inward others) → OnOk r (new ≡ old ++ others) → OnOk r (left ≡ [])
    → OnErr r ((new ≡ old) × (left ≡ others)) → AllNamed (inward new) × AllNamed (inward left)
named_laid (Ok x) old others new left h k p q e = (
  subst AllNamed (sym (laid old others new p)) (all_named_both (inward others) (inward old) k h),
  subst (λ ls. AllNamed (inward ls)) (sym q) tt,
)
named_laid (Err x) old others new left h k p q e =
    (subst (λ ls. AllNamed (inward ls)) (sym e.0) h, subst (λ ls. AllNamed (inward ls)) (sym e.1) k)

-- of levels the last ones, as far as they are these, and the rest
module _ (ls over rest : List Names) (count : ℕ) (is : inward ls ≡ over ++ rest) (long : length over ≡ count) where
  abbrev kept : ℕ
  kept = length ls - count

  parted : inward (drop kept ls) ++ inward (take kept ls) ≡ over ++ rest
  parted =
      sym (inward_append (take kept ls) (drop kept ls)) ∙ ap inward (take-append-drop kept ls) ∙ is

  as_long : length (inward (drop kept ls)) ≡ length over
  as_long =
      let all : length ls ≡ length over + length rest =
      sym (inward_length ls) ∙ ap length is ∙ length-append over rest in
      inward_length (drop kept ls) ∙ length-drop kept ls ∙ omega (arith, all, long)

  pub lifted : inward (drop kept ls) ≡ over
  lifted =
      sym (take_at (inward (drop kept ls)) (inward (take kept ls)) (length over) as_long) ∙ ap (take (length over)) parted
      ∙ take_at over rest (length over) refl

  pub beneath : inward (take kept ls) ≡ rest
  beneath =
      sym (drop_at (inward (drop kept ls)) (inward (take kept ls)) (length over) as_long) ∙ ap (drop (length over)) parted
      ∙ drop_at over rest (length over) refl

pub named_parted : (ls : List Names) (k : ℕ) → AllNamed (inward ls)
    → AllNamed (inward (drop k ls)) × AllNamed (inward (take k ls))
named_parted ls k h =
    let both = subst AllNamed (sym (ap inward (take-append-drop k ls)) ∙ inward_append (take k ls) (drop k ls)) h in (
      all_named_front (inward (drop k ls)) (inward (take k ls)) both,
      all_named_back (inward (drop k ls)) (inward (take k ls)) both,
    )
