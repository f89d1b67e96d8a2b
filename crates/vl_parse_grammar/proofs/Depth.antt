-- A run over a text is cut off exactly where too many constructs are open.
use Rattle.std.proofs.Common.{◌≡◌, ℕ, zero, suc, ◌+◌, ◌≤◌, ◌<◌, Bool, true, false, List, [], ◌∷◌, ◌++◌, length, Some}
use Rattle.std.proofs.Common.{refl, sym, ap, ◌∙◌, arith, le-leb}
use Rattle.std.proofs.lemmas.Bool.{lt-leb}
use Rattle.std.specs.Prelude.{nat_le, if◌then◌else◌, Ok, Err}
use Rattle.std.proofs.lemmas.List.{length-append}
use Rattle.fv_text.specs.declared.kind.Kind.{Kind}
use Rattle.vl_tree.proofs.Readings.{counted}
use Rattle.vl_tree.specs.Phrase.{Phrase, nothing, token, operator, ◌▸◌, at, within, level, kinds, open_at, open_behind}
use Rattle.vl_parse_grammar.specs.Machine.{deep, fits}
use Rattle.vl_parse_grammar.specs.Depth.{first_above, unless_too_deep}
use Rattle.vl_parse_grammar.proofs.Onto.{onto, onto_kinds}
use Rattle.vl_parse_grammar.proofs.Steps.{apart}
use Rattle.vl_parse_grammar.proofs.Measured.{Ran, held, opening, either, has_token, open_after, measured, inner}

fits_bound : (n room : ℕ) → fits n room ≡ true → n ≤ room
fits_bound zero room h = omega arith
fits_bound (suc n) zero h = apart h
fits_bound (suc n) (suc room) h = omega (arith, fits_bound n room h)

fits_none : (n room : ℕ) → fits n room ≡ false → room < n
fits_none zero room h = apart (sym h)
fits_none (suc n) zero h = omega arith
fits_none (suc n) (suc room) h = omega (arith, fits_none n room h)

fits_le : (n room : ℕ) → fits n room ≡ nat_le n room
fits_le n room = by_room (fits n room) refl
  where
    by_room : (b : Bool) → fits n room ≡ b → fits n room ≡ nat_le n room
    by_room true h = h ∙ sym (le-leb n room (fits_bound n room h))
    by_room false h = h ∙ sym (lt-leb n room (fits_none n room h))

fits_next : (n room : ℕ) → fits n room ≡ false → fits (n + 1) room ≡ false
fits_next n room h = fits_le (n + 1) room ∙ lt-leb (n + 1) room (omega (arith, fits_none n room h))

add_one : (n : ℕ) → n + 1 ≡ suc n
add_one n = omega arith

-- behind a phrase so many constructs are open
open_same : (a : Phrase) (n : ℕ) → open_behind a n ≡ open_after a n
open_same nothing n = refl
open_same (token kind) n = refl
open_same (operator kind) n = add_one n
open_same (a ▸ b) n = ap (open_behind b) (open_same a n) ∙ open_same b (open_after a n)
open_same (at p a) n = open_same a n
open_same (within a) n = refl
open_same (level a) n = refl

-- cut off at the first number above the room; so many tokens are behind the phrase
abbrev checked : ℕ → List ℕ → ℕ → Ran → Ran
checked room [] l out = out
checked room (n ∷ ns) l out = held (fits n room) (length (n ∷ ns) + l) (checked room ns l out)

checked_both : (room : ℕ) (ms ns : List ℕ) (l : ℕ) (out : Ran)
    → checked room (ms ++ ns) l out ≡ checked room ms (length ns + l) (checked room ns l out)
checked_both room [] ns l out = refl
checked_both room (m ∷ ms) ns l out =
    (let e : length (m ∷ (ms ++ ns)) + l ≡ length (m ∷ ms) + (length ns + l) = omega (arith, length-append ms ns) in
    λ i. held (fits m room) (e i) (checked_both room ms ns l out i))

long : (a : Phrase) (n : ℕ) (rest : List Kind) → length (onto a rest) ≡ length (open_at a n) + length rest
long a n rest =
    ap length (onto_kinds a rest) ∙ length-append (kinds a) rest ∙ ap (λ m. m + length rest) (sym (counted a n))

both_false : (a b : Bool) → either a b ≡ false → (a ≡ false) × (b ≡ false)
both_false true b h = apart (sym h)
both_false false b h = (refl, h)

no_numbers : (a : Phrase) (n : ℕ) → has_token a ≡ false → open_at a n ≡ []
no_numbers nothing n h = refl
no_numbers (token kind) n h = apart (sym h)
no_numbers (operator kind) n h = apart (sym h)
no_numbers (a ▸ b) n h =
    (let (f, g) = both_false (has_token a) (has_token b) h in
    (λ i. no_numbers a n f i ++ open_at b (open_behind a n)) ∙ no_numbers b (open_behind a n) g)
no_numbers (at p a) n h = no_numbers a n h
no_numbers (within a) n h = no_numbers a (n + 1) h
no_numbers (level a) n h = no_numbers a n h

none_opened : (a : Phrase) (n : ℕ) → has_token a ≡ false → open_behind a n ≡ n
none_opened nothing n h = refl
none_opened (token kind) n h = refl
none_opened (operator kind) n h = apart (sym h)
none_opened (a ▸ b) n h =
    (let (f, g) = both_false (has_token a) (has_token b) h in ap (open_behind b) (none_opened a n f)
    ∙ none_opened b n g)
none_opened (at p a) n h = none_opened a n h
none_opened (within a) n h = refl
none_opened (level a) n h = refl

none_measured : (a : Phrase) (room n : ℕ) (rest : List Kind) (out : Ran) → has_token a ≡ false
    → measured a room n rest out ≡ out
none_measured nothing room n rest out h = refl
none_measured (token kind) room n rest out h = apart (sym h)
none_measured (operator kind) room n rest out h = apart (sym h)
none_measured (a ▸ b) room n rest out h =
    (let (f, g) = both_false (has_token a) (has_token b) h in
    none_measured a room n (onto b rest) (measured b room (open_after a n) rest out) f
    ∙ none_measured b room (open_after a n) rest out g)
none_measured (at p a) room n rest out h = none_measured a room n rest out h
none_measured (within a) room n rest out h =
    ap (λ b. opening b (fits (suc n) room) (length (onto a rest)) (measured a room (suc n) rest out)) h
    ∙ none_measured a room (suc n) rest out h
none_measured (level a) room n rest out h = none_measured a room n rest out h

held_false : (b : Bool) (l : ℕ) (out : Ran) → b ≡ false → held b l out ≡ Err (deep l)
held_false b l out h = ap (λ c. held c l out) h

-- where too many are open before the phrase, it is cut off at its first token
cut : (a : Phrase) (room n l : ℕ) (out : Ran) → has_token a ≡ true → fits n room ≡ false
    → checked room (open_at a n) l out ≡ Err (deep (length (open_at a n) + l))
cut nothing room n l out h f = apart h
cut (token kind) room n l out h f = held_false (fits n room) (1 + l) out f
cut (operator kind) room n l out h f = held_false (fits (n + 1) room) (1 + l) out (fits_next n room f)
cut (a ▸ b) room n l out h f =
    checked_both room (open_at a n) (open_at b (open_behind a n)) l out
    ∙ by_token (has_token a) refl h (cut a room n (length (open_at b (open_behind a n)) + l)
    (checked room (open_at b (open_behind a n)) l out))
    (cut b room (open_behind a n) l out)
    ∙ ap (λ m. Err (deep m)) lengths
  where
    lengths : length (open_at a n) + (length (open_at b (open_behind a n)) + l)
        ≡ length (open_at a n ++ open_at b (open_behind a n)) + l
    lengths = omega (arith, length-append (open_at a n) (open_at b (open_behind a n)))

    by_token : (c : Bool) → has_token a ≡ c → either c (has_token b) ≡ true
        → (has_token a ≡ true → fits n room ≡ false
        → checked room (open_at a n) (length (open_at b (open_behind a n)) + l)
        (checked room (open_at b (open_behind a n)) l out)
        ≡ Err (deep (length (open_at a n) + (length (open_at b (open_behind a n)) + l))))
        → (has_token b ≡ true → fits (open_behind a n) room ≡ false
        → checked room (open_at b (open_behind a n)) l out ≡ Err (deep (length (open_at b (open_behind a n)) + l)))
        → checked room (open_at a n) (length (open_at b (open_behind a n)) + l)
        (checked room (open_at b (open_behind a n)) l out)
        ≡ Err (deep (length (open_at a n) + (length (open_at b (open_behind a n)) + l)))
    by_token true e g first second = first e f
    by_token false e g first second =
        ap (λ ns. checked room ns (length (open_at b (open_behind a n)) + l)
        (checked room (open_at b (open_behind a n)) l out)) (no_numbers a n e)
        ∙ second g (ap (λ m. fits m room) (none_opened a n e) ∙ f)
        ∙ ap (λ m. Err (deep m))
        (let z : length (open_at a n) ≡ 0 = ap length (no_numbers a n e) in omega (arith, z))
cut (at p a) room n l out h f = cut a room n l out h f
cut (within a) room n l out h f = cut a room (n + 1) l out h (fits_next n room f)
cut (level a) room n l out h f = cut a room n l out h f

pub by_numbers : (a : Phrase) (room n : ℕ) (rest : List Kind) (out : Ran) → fits n room ≡ true
    → measured a room n rest out ≡ checked room (open_at a n) (length rest) out
by_numbers nothing room n rest out h = refl
by_numbers (token kind) room n rest out h = sym (ap (λ b. held b (1 + length rest) out) h)
by_numbers (operator kind) room n rest out h =
    (let e : suc (length rest) ≡ 1 + length rest = omega arith in
    λ i. held (fits (sym (add_one n) i) room) (e i) out)
by_numbers (a ▸ b) room n rest out h =
    inner a room n (onto b rest) (measured b room (open_after a n) rest out)
    (checked room (open_at b (open_behind a n)) (length rest) out) h
    (λ e. by_numbers b room (open_after a n) rest out e
    ∙ ap (λ m. checked room (open_at b m) (length rest) out) (sym (open_same a n)))
    ∙ by_numbers a room n (onto b rest) (checked room (open_at b (open_behind a n)) (length rest) out) h
    ∙ ap (λ m. checked room (open_at a n) m (checked room (open_at b (open_behind a n)) (length rest) out))
    (long b (open_behind a n) rest)
    ∙ sym (checked_both room (open_at a n) (open_at b (open_behind a n)) (length rest) out)
by_numbers (at p a) room n rest out h = by_numbers a room n rest out h
by_numbers (level a) room n rest out h = by_numbers a room n rest out h
by_numbers (within a) room n rest out h =
    by_token (has_token a) refl (fits (suc n) room) refl (λ e. by_numbers a room (suc n) rest out e)
  where
    by_token : (b : Bool) → has_token a ≡ b → (c : Bool) → fits (suc n) room ≡ c
        → (fits (suc n) room ≡ true → measured a room (suc n) rest out
        ≡ checked room (open_at a (suc n)) (length rest) out)
        → opening b c (length (onto a rest)) (measured a room (suc n) rest out)
        ≡ checked room (open_at a (n + 1)) (length rest) out
    by_token false e c f next =
        none_measured a room (suc n) rest out e ∙ ap (λ ns. checked room ns (length rest) out)
        (sym (no_numbers a (n + 1) e))
    by_token true e true f next = next f ∙ ap (λ m. checked room (open_at a m) (length rest) out) (sym (add_one n))
    by_token true e false f next =
        ap (λ m. Err (deep m)) (long a (n + 1) rest)
        ∙ sym (cut a room (n + 1) (length rest) out e (ap (λ m. fits m room) (add_one n) ∙ f))

-- without tokens behind, as the first number above the room says
checked_first : (room : ℕ) (ns : List ℕ) → checked room ns 0 (Ok tt) ≡ unless_too_deep (first_above room ns)
checked_first room [] = refl
checked_first room (n ∷ ns) =
    by_room (fits n room) (nat_le n room) (fits_le n room) (checked_first room ns)
  where
    by_room : (b c : Bool) → b ≡ c → checked room ns 0 (Ok tt) ≡ unless_too_deep (first_above room ns)
        → held b (length (n ∷ ns) + 0) (checked room ns 0 (Ok tt))
        ≡ unless_too_deep (if c then first_above room ns else Some (length (n ∷ ns)))
    by_room true true e h = h
    by_room false false e h = ap (λ m. Err (deep m)) (omega arith)
    by_room true false e h = apart (sym e)
    by_room false true e h = apart e

pub by_first : (a : Phrase) (room : ℕ) → measured a room 0 [] (Ok tt) ≡ unless_too_deep (first_above room (open_at a 0))
by_first a room = by_numbers a room 0 [] (Ok tt) refl ∙ checked_first room (open_at a 0)
