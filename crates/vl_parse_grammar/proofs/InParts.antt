-- Rules are read one behind the other, and each row as the machine says.
use Rattle.std.proofs.Common.{◌≡◌, ℕ, zero, suc, ◌≤◌, ◌<◌, ◌-◌, Bool, true, false, List, [], ◌∷◌, ◌++◌, length, refl}
use Rattle.std.proofs.Common.{sym, ap, ◌∙◌, arith}
use Rattle.std.specs.Prelude.{Result, Ok, Err}
use Rattle.vl_parse_grammar.specs.Machine.{
  Row,
  Move,
  take,
  pop,
  bad,
  Fault,
  syntax,
  deep,
  Stepped,
  stuck,
  emptied,
  over,
  goes,
  fits,
  left,
  placed,
  taken,
  step,
  all_end,
  run,
  reads,
  then,
}

pub fits_within : (opened room : ℕ) → opened ≤ room → fits opened room ≡ true
fits_within zero room h = refl
fits_within (suc opened) zero h = absurd (omega (arith, h))
fits_within (suc opened) (suc room) h = fits_within opened room (omega (arith, h))

pub fits_beyond : (opened room : ℕ) → room < opened → fits opened room ≡ false
fits_beyond zero room h = absurd (omega (arith, h))
fits_beyond (suc opened) zero h = refl
fits_beyond (suc opened) (suc room) h = fits_beyond opened room (omega (arith, h))

pub left_less : (opened room : ℕ) → left opened room ≡ room - opened
left_less zero room = omega arith
left_less (suc opened) zero = omega arith
left_less (suc opened) (suc room) = left_less opened room ∙ omega arith

module _ {S T : Type 0} (expand : S → T → Move S) (ends : S → Bool) where
  -- what comes behind does not matter to a row
  placed_onto : (room : ℕ) (row j k : Row S) → placed room row (j ++ k) ≡ placed room row j ++ k
  placed_onto room [] j k = refl
  placed_onto room (x ∷ row) j k = ap (λ r. (x.0, left x.1 room) ∷ r) (placed_onto room row j k)

  abbrev onwards : Stepped S → Row S → T → Stepped S
  onwards stuck k t = stuck
  onwards emptied k t = step expand k t
  onwards over k t = over
  onwards (goes j) k t = goes (j ++ k)

  taken_onto : (b : Bool) (room : ℕ) (row j k : Row S) (t : T)
      → taken b (placed room row (j ++ k)) ≡ onwards (taken b (placed room row j)) k t
  taken_onto true room row j k t = ap goes (placed_onto room row j k)
  taken_onto false room row j k t = refl

  step_move : (x : S × ℕ) (j k : Row S) (t : T) (m : Move S) → step expand (j ++ k) t ≡ onwards (step expand j t) k t
      → elim m as (λ _. Stepped S) [
        | take opened row ↦ taken (fits opened x.1) (placed x.1 row (j ++ k))
        | pop ↦ step expand
            (j ++ k) t
        | bad ↦ stuck
      ]
      ≡ onwards (elim m as (λ _. Stepped S)
      [ take opened row ↦ taken (fits opened x.1) (placed x.1 row j) | pop ↦ step expand j t | bad ↦ stuck ]) k t
  step_move x j k t (take opened row) h = taken_onto (fits opened x.1) x.1 row j k t
  step_move x j k t pop h = h
  step_move x j k t bad h = refl

  step_onto : (j k : Row S) (t : T) → step expand (j ++ k) t ≡ onwards (step expand j t) k t
  step_onto [] k t = refl
  step_onto (x ∷ j) k t = step_move x j k t (expand x.0 t) (step_onto j k t)

  -- what reading does at a token
  abbrev pub on : Stepped S → T → List T → Result (List T) Fault
  on stuck t ts = Err (syntax (suc (length ts)))
  on emptied t ts = Ok (t ∷ ts)
  on over t ts = Err (deep (suc (length ts)))
  on (goes k) t ts = reads expand ends k ts

  pub reads_on : (k : Row S) (t : T) (ts : List T) → reads expand ends k (t ∷ ts) ≡ on (step expand k t) t ts
  unfolding reads
  reads_on [] t ts = refl
  reads_on (x ∷ k) t ts = by_step (step expand (x ∷ k) t)
    where
      by_step : (found : Stepped S) → elim found as (λ _. Result (List T) Fault) [
        | stuck ↦ Err (syntax (suc (length ts)))
        | emptied ↦ Ok (t ∷ ts)
        | over ↦ Err (deep (suc (length ts)))
        | goes j ↦ reads expand ends j ts
      ] ≡ on found t ts
      by_step stuck = refl
      by_step emptied = refl
      by_step over = refl
      by_step (goes j) = refl

  on_onwards : (found : Stepped S) (k : Row S) (t : T) (ts : List T)
      → ((j : Row S) → reads expand ends (j ++ k) ts ≡ then (reads expand ends j ts) (λ rest. reads expand ends k rest))
      → on (onwards found k t) t ts ≡ then (on found t ts) (λ rest. reads expand ends k rest)
  on_onwards stuck k t ts h = refl
  on_onwards emptied k t ts h = sym (reads_on k t ts)
  on_onwards over k t ts h = refl
  on_onwards (goes j) k t ts h = h j

  abbrev at_end : Bool → Result (List T) Fault
  at_end true = Ok []
  at_end false = Err (syntax 0)

  reads_end : (j : Row S) → reads expand ends j [] ≡ at_end (all_end ends j)
  unfolding reads
  reads_end [] = refl
  reads_end (x ∷ j) = by_end (all_end ends (x ∷ j))
    where
      by_end : (b : Bool) → elim b as (λ _. Result (List T) Fault) [ true ↦ Ok [] | false ↦ Err (syntax 0) ] ≡ at_end b
      by_end true = refl
      by_end false = refl

  end_onto : (j k : Row S) → at_end (all_end ends (j ++ k)) ≡
      then (at_end (all_end ends j)) (λ rest. reads expand ends k rest)
  end_onto [] k = sym (reads_end k)
  end_onto (x ∷ j) k = by_end (ends x.0) (end_onto j k)
    where
      by_end : (b : Bool) → at_end (all_end ends (j ++ k)) ≡
          then (at_end (all_end ends j)) (λ rest. reads expand ends k rest)
          → at_end (elim b as (λ _. Bool) [ true ↦ all_end ends (j ++ k) | false ↦ false ])
          ≡ then (at_end (elim b as (λ _. Bool) [ true ↦ all_end ends j | false ↦ false ]))
          (λ rest. reads expand ends k rest)
      by_end true h = h
      by_end false h = refl

  -- the first rules, and then the others
  pub in_parts : (j k : Row S) (ts : List T)
      → reads expand ends (j ++ k) ts ≡ then (reads expand ends j ts) (λ rest. reads expand ends k rest)
  in_parts j k [] =
      reads_end (j ++ k) ∙ end_onto j k ∙ ap (λ r. then r (λ rest. reads expand ends k rest)) (sym (reads_end j))
  in_parts j k (t ∷ ts) =
      reads_on (j ++ k) t ts ∙ ap (λ r. on r t ts) (step_onto j k t)
      ∙ on_onwards (step expand j t) k t ts (λ i. in_parts i k ts)
      ∙ ap (λ r. then r (λ rest. reads expand ends k rest)) (sym (reads_on j t ts))

  abbrev moved : Move S → S × ℕ → Row S → T → Stepped S
  moved m x k t = elim m as (λ _. Stepped S)
      [ take opened row ↦ taken (fits opened x.1) (placed x.1 row k) | pop ↦ step expand k t | bad ↦ stuck ]

  -- a token is taken where there is room for what it opens
  pub take_row : (x : S) (room : ℕ) (k : Row S) (t : T) (ts : List T) (opened : ℕ) (row : Row S)
      → expand x t ≡ take opened row → opened ≤ room
      → reads expand ends ((x, room) ∷ k) (t ∷ ts) ≡ reads expand ends (placed room row k) ts
  take_row x room k t ts opened row e h =
      reads_on ((x, room) ∷ k) t ts ∙ ap (λ m. on (moved m (x, room) k t) t ts) e
      ∙ ap (λ b. on (taken b (placed room row k)) t ts) (fits_within opened room h)

  -- and else a construct is too many
  pub take_deep : (x : S) (room : ℕ) (k : Row S) (t : T) (ts : List T) (opened : ℕ) (row : Row S)
      → expand x t ≡ take opened row → room < opened
      → reads expand ends ((x, room) ∷ k) (t ∷ ts) ≡ Err (deep (suc (length ts)))
  take_deep x room k t ts opened row e h =
      reads_on ((x, room) ∷ k) t ts ∙ ap (λ m. on (moved m (x, room) k t) t ts) e
      ∙ ap (λ b. on (taken b (placed room row k)) t ts) (fits_beyond opened room h)

  pub pop_row : (x : S) (room : ℕ) (k : Row S) (t : T) (ts : List T) → expand x t ≡ pop
      → reads expand ends ((x, room) ∷ k) (t ∷ ts) ≡ reads expand ends k (t ∷ ts)
  pop_row x room k t ts e =
      reads_on ((x, room) ∷ k) t ts ∙ ap (λ m. on (moved m (x, room) k t) t ts) e ∙ sym (reads_on k t ts)

  pub bad_row : (x : S) (room : ℕ) (k : Row S) (t : T) (ts : List T) → expand x t ≡ bad
      → reads expand ends ((x, room) ∷ k) (t ∷ ts) ≡ Err (syntax (suc (length ts)))
  bad_row x room k t ts e = reads_on ((x, room) ∷ k) t ts ∙ ap (λ m. on (moved m (x, room) k t) t ts) e

  abbrev pub at_the_end : List T → Result (Unit {0}) Fault
  at_the_end [] = Ok tt
  at_the_end (t ∷ ts) = Err (syntax (suc (length ts)))

  -- a run is what is read, and then the end of the text
  pub run_reads : (k : Row S) (ts : List T) → run expand ends k ts ≡ then (reads expand ends k ts) at_the_end
  run_reads k [] = by_end (all_end ends k) ∙ ap (λ r. then r at_the_end) (sym (reads_end k))
    where
      by_end : (b : Bool) → elim b as (λ _. Result (Unit {0}) Fault) [ true ↦ Ok tt | false ↦ Err (syntax 0) ]
          ≡ then (at_end b) at_the_end
      by_end true = refl
      by_end false = refl
  run_reads k (t ∷ ts) =
      by_step (step expand k t) (λ j. run_reads j ts) ∙ ap (λ r. then r at_the_end) (sym (reads_on k t ts))
    where
      by_step : (found : Stepped S) → ((j : Row S) → run expand ends j ts ≡ then (reads expand ends j ts) at_the_end)
          → elim found as (λ _. Result (Unit {0}) Fault) [
            | stuck ↦ Err (syntax (suc (length ts)))
            | emptied ↦ Err (syntax (suc (length ts)))
            | over ↦ Err (deep (suc (length ts)))
            | goes j ↦ run expand ends j ts
          ]
          ≡ then (on found t ts) at_the_end
      by_step stuck next = refl
      by_step emptied next = refl
      by_step over next = refl
      by_step (goes j) next = next j
