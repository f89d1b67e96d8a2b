-- Packing, one clause after the other.
use Rattle.std.proofs.Common.{◌≡◌, ℕ, zero, suc, ◌+◌, ◌-◌, ◌<◌, ◌≤◌, Bool, true, false, List, [], ◌∷◌, ◌++◌, length}
use Rattle.std.proofs.Common.{take, drop, get_or, refl, ap, sym, subst, ◌∙◌, arith, length-drop}
use Rattle.std.specs.Prelude.{slice_range}
use Rattle.std.specs.List.{copy_within}
use Rattle.std.proofs.lemmas.List.{append_assoc, append-nil, drop-drop, drop_more}
use Rattle.std.proofs.Math.ListN.{drop_of_length-le}
use Rattle.std.proofs.lemmas.List.Edits.{take-paste, drop-paste, length-paste}
use Rattle.cnf_form.specs.Flat.{start_of, end_at, Mounting}
use Rattle.cnf_form.proofs.Starts.{up, start_at, start_behind, part_mounts}
use Rattle.lrat_check.specs.Store.{number_at, marked, packed_starts, packed}

-- so far the codes of the clauses before a place were moved to the front, and those from there on are as they were
abbrev pub Packs : List ℕ → List ℕ → List Bool → ℕ → ℕ → List ℕ → Type 0
Packs all starts held i to codes =
    (length codes ≡ length all) × (to ≤ start_of (drop i starts) (length all))
    × (take to codes ++ packed all (drop i starts) (drop i held) ≡ packed all starts held)
    × (drop (start_of (drop i starts) (length all)) codes ≡ drop (start_of (drop i starts) (length all)) all)

module _ (all starts : List ℕ) (held : List Bool) (i to : ℕ) (codes : List ℕ) (m : Mounting starts (length all))
    (many : length held ≡ length starts) (h : i < length held) (p : Packs all starts held i to codes) where
  abbrev start : ℕ
  start = number_at starts i

  abbrev end : ℕ
  end = end_at starts i (length all)

  within : i < length starts
  within = omega (arith, h, many)

  here : start_of (drop i starts) (length all) ≡ start
  here = start_at starts i (length all) within

  there : end ≡ start_of (drop (i + 1) starts) (length all)
  there = start_behind starts i (length all) within

  fits : (start ≤ end) × (end ≤ length all)
  fits = part_mounts starts i (length all) m within

  same : drop start codes ≡ drop start all
  same = subst (λ z. drop z codes ≡ drop z all) here p.3

  behind : drop end codes ≡ drop end all
  behind =
      let e : end ≡ start + (end - start) = omega (arith, fits.0) in
      ap (λ z. drop z codes) e ∙ sym (drop-drop (end - start) start codes) ∙ ap (drop (end - start)) same
      ∙ drop-drop (end - start) start all ∙ ap (λ z. drop z all) (sym e)

  unpacked : (b : Bool) → get_or held i false ≡ b → packed all (drop i starts) (drop i held)
      ≡ packed all (start ∷ drop (i + 1) starts) (b ∷ drop (i + 1) held)
  unpacked b e =
      ap (λ z. packed all z (drop i held)) (drop_more starts i 0 within)
      ∙ ap (packed all (start ∷ drop (i + 1) starts)) (drop_more held i false h)
      ∙ ap (λ z. packed all (start ∷ drop (i + 1) starts) (z ∷ drop (i + 1) held)) e

  -- a clause that isn't held is passed over
  pub passes : get_or held i false ≡ false → Packs all starts held (i + 1) to codes
  passes e = (
    p.0,
    omega (arith, p.1, here, there, fits.0),
    ap (λ z. take to codes ++ z) (sym (unpacked false e)) ∙ p.2,
    subst (λ z. drop z codes ≡ drop z all) there behind,
  )

  abbrev now : List ℕ
  now = copy_within codes start end to

  pub room : to + (end - start) ≤ length codes
  room = omega (arith, p.0, p.1, here, fits.0, fits.1)

  from : end - start ≤ length (drop start codes)
  from = omega (arith, length-drop start codes, p.0, fits.0, fits.1)

  moved : take (to + (end - start)) now ≡ take to codes ++ slice_range all start end
  moved =
      take-paste codes to (drop start codes) (end - start) (omega (arith, room)) from
      ∙ ap (λ z. take to codes ++ take (end - start) z) same

  kept : drop end now ≡ drop end all
  kept =
      let k = end - (to + (end - start)) in
      let e : end ≡ (to + (end - start)) + k = omega (arith, p.1, here, fits.0) in
      ap (λ z. drop z now) e ∙ sym (drop-drop k (to + (end - start)) now)
      ∙ ap (drop k) (drop-paste codes to (drop start codes) (end - start) (omega (arith, room)) from)
      ∙ drop-drop k (to + (end - start)) codes ∙ ap (λ z. drop z codes) (sym e) ∙ behind

  -- a clause that is held is moved
  pub moves : get_or held i false ≡ true → Packs all starts held (i + 1) (to + (end - start)) now
  moves e = (
    length-paste codes to (drop start codes) (end - start) room from ∙ p.0,
    omega (arith, p.1, here, there, fits.0),
    ap (λ z. z ++ packed all (drop (i + 1) starts) (drop (i + 1) held)) moved
        ∙ append_assoc (take to codes) (slice_range all start end)
        (packed all (drop (i + 1) starts) (drop (i + 1) held))
        ∙ ap (λ z. take to codes ++ (slice_range all start z ++ packed all (drop (i + 1) starts) (drop (i + 1) held)))
        there
        ∙ ap (λ z. take to codes ++ z) (sym (unpacked true e)) ∙ p.2,
    subst (λ z. drop z now ≡ drop z all) there kept,
  )

-- all were looked at
pub packs_all : (all starts : List ℕ) (held : List Bool) (i to : ℕ) (codes : List ℕ) → length held ≤ i
    → length held ≡ length starts → Packs all starts held i to codes → take to codes ≡ packed all starts held
packs_all all starts held i to codes h m p =
    sym (append-nil (take to codes))
    ∙ ap (λ z. take to codes ++ packed all z (drop i held)) (sym (drop_of_length-le starts (omega (arith, h, m)))) ∙ p.2

-- so far the starts of the held clauses before a place are there, and the next one comes at a place
abbrev pub Begins : List ℕ → List Bool → ℕ → ℕ → ℕ → List ℕ → Type 0
Begins starts held end i from now =
    (now ++ packed_starts (drop i starts) (drop i held) end from ≡ packed_starts starts held end 0)
    × (from ≤ start_of (drop i starts) end)

module _ (starts : List ℕ) (held : List Bool) (end i from : ℕ) (now : List ℕ) (m : Mounting starts end)
    (many : length held ≡ length starts) (h : i < length held) (p : Begins starts held end i from now) where
  in_starts : i < length starts
  in_starts = omega (arith, h, many)

  pub first : from ≤ number_at starts i
  first = omega (arith, p.1, start_at starts i end in_starts)

  unstarted : (b : Bool) → get_or held i false ≡ b → packed_starts (drop i starts) (drop i held) end from
      ≡ packed_starts (number_at starts i ∷ drop (i + 1) starts) (b ∷ drop (i + 1) held) end from
  unstarted b e =
      ap (λ z. packed_starts z (drop i held) end from) (drop_more starts i 0 in_starts)
      ∙ ap (λ z. packed_starts (number_at starts i ∷ drop (i + 1) starts) z end from) (drop_more held i false h)
      ∙ ap (λ z. packed_starts (number_at starts i ∷ drop (i + 1) starts) (z ∷ drop (i + 1) held) end from) e

  pub begins_past : get_or held i false ≡ false → Begins starts held end (i + 1) from now
  begins_past e =
      let f = part_mounts starts i end m in_starts in (
        ap (λ z. now ++ z) (sym (unstarted false e)) ∙ p.0,
        omega (arith, first, f.0, start_behind starts i end in_starts),
      )

  pub begins_on : get_or held i false ≡ true
      → Begins starts held end (i + 1) (from + (end_at starts i end - number_at starts i)) (now ++ from ∷ [])
  begins_on e =
      let f = part_mounts starts i end m in_starts in
      let q = start_behind starts i end in_starts in (
        append_assoc now (from ∷ [])
            (packed_starts (drop (i + 1) starts) (drop (i + 1) held) end
            (from + (end_at starts i end - number_at starts i)))
            ∙ ap (λ z. now ++ (from ∷ packed_starts (drop (i + 1) starts) (drop (i + 1) held) end
            (from + (z - number_at starts i)))) q
            ∙ ap (λ z. now ++ z) (sym (unstarted true e)) ∙ p.0,
        omega (arith, first, f.0, q),
      )

-- all were looked at
pub begins_all : (starts : List ℕ) (held : List Bool) (end i from : ℕ) (now : List ℕ) → length held ≤ i
    → length held ≡ length starts → Begins starts held end i from now → now ≡ packed_starts starts held end 0
begins_all starts held end i from now h m p =
    sym (append-nil now)
    ∙ ap (λ z. now ++ packed_starts z (drop i held) end from)
    (sym (drop_of_length-le starts (omega (arith, h, m)))) ∙ p.0

-- the ids that are kept, one after the other
module _ (ids : List ℕ) (marks : List Bool) (i : ℕ) (now : List ℕ) (many : length marks ≡ length ids)
    (h : i < length marks) (p : now ++ marked (drop i ids) (drop i marks) ≡ marked ids marks) where
  unmarked : (b : Bool) → get_or marks i false ≡ b
      → marked (drop i ids) (drop i marks) ≡ marked (number_at ids i ∷ drop (i + 1) ids) (b ∷ drop (i + 1) marks)
  unmarked b e =
      ap (λ z. marked z (drop i marks)) (drop_more ids i 0 (omega (arith, h, many)))
      ∙ ap (marked (number_at ids i ∷ drop (i + 1) ids)) (drop_more marks i false h)
      ∙ ap (λ z. marked (number_at ids i ∷ drop (i + 1) ids) (z ∷ drop (i + 1) marks)) e

  pub marks_past : get_or marks i false ≡ false
      → now ++ marked (drop (i + 1) ids) (drop (i + 1) marks) ≡ marked ids marks
  marks_past e = ap (λ z. now ++ z) (sym (unmarked false e)) ∙ p

  pub marks_on : get_or marks i false ≡ true
      → (now ++ number_at ids i ∷ []) ++ marked (drop (i + 1) ids) (drop (i + 1) marks) ≡ marked ids marks
  marks_on e =
      append_assoc now (number_at ids i ∷ []) (marked (drop (i + 1) ids) (drop (i + 1) marks))
      ∙ ap (λ z. now ++ z) (sym (unmarked true e)) ∙ p

pub marks_all : (ids : List ℕ) (marks : List Bool) (i : ℕ) (now : List ℕ) → length marks ≤ i
    → length marks ≡ length ids → now ++ marked (drop i ids) (drop i marks) ≡ marked ids marks → now ≡ marked ids marks
marks_all ids marks i now h m p =
    sym (append-nil now)
    ∙ ap (λ z. now ++ marked z (drop i marks)) (sym (drop_of_length-le ids (omega (arith, h, m)))) ∙ p
