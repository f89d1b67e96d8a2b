-- The clauses of one formula behind those of another.
use Rattle.std.proofs.Common.{◌≡◌, ℕ, ◌+◌, ◌-◌, ◌<◌, ◌≤◌, ◌^◌, List, [], ◌∷◌, ◌++◌, ℤ, length, map, take, drop}
use Rattle.std.proofs.Common.{refl, ap, sym, subst, ◌∙◌, arith, length-append}
use Rattle.std.proofs.Math.Seq.{drop-append-add}
use Rattle.std.specs.Prelude.{slice_range}
use Rattle.std.specs.List.{AllByRecursion}
use Rattle.cnf_form.specs.Cnf.{AreLiterals, AreClauses}
use Rattle.cnf_form.specs.Flat.{start_of, Mounting, Fills, clauses_from}
use Rattle.cnf_form.proofs.Starts.{up}
use Rattle.cnf_form.proofs.Parts.{part_kept}
use Rattle.cnf_form.proofs.Pushed.{Holds, all_append}

-- where clauses begin that come behind so many literals
abbrev pub shifted : List ℕ → ℕ → List ℕ
shifted starts end = map (λ start. end + start) starts

start_shifted : (starts : List ℕ) (end more : ℕ) → start_of (shifted starts end) (end + more) ≡ end + start_of starts more
start_shifted [] end more = refl
start_shifted (s ∷ starts) end more = refl

pub fit : (starts : List ℕ) (many end : ℕ) → Mounting starts many → end + many < 2 ^ 32
    → AllByRecursion (λ start. end + start < 2 ^ 32) starts
fit [] many end m l = tt
fit (s ∷ starts) many end m l = (omega (arith, m.0, up starts many m.1, l), fit starts many end m.1 l)

part_shifted : (all more : List ℤ) (s e : ℕ)
    → slice_range (all ++ more) (length all + s) (length all + e) ≡ slice_range more s e
part_shifted all more s e =
    let n : (length all + e) - (length all + s) ≡ e - s = omega arith in
    ap (λ k. take k (drop (length all + s) (all ++ more))) n ∙ ap (take (e - s)) (drop-append-add all more s)

behind : (all more : List ℤ) (starts : List ℕ)
    → clauses_from (all ++ more) (shifted starts (length all)) ≡ clauses_from more starts
behind all more [] = refl
behind all more (s ∷ starts) =
    ap (λ e. slice_range (all ++ more) (length all + s) (start_of (shifted starts (length all)) e)
    ∷ clauses_from (all ++ more) (shifted starts (length all))) (length-append all more)
    ∙ ap (λ e. slice_range (all ++ more) (length all + s) e ∷ clauses_from (all ++ more) (shifted starts (length all)))
    (start_shifted starts (length all) (length more))
    ∙ ap (λ c. c ∷ clauses_from (all ++ more) (shifted starts (length all)))
    (part_shifted all more s (start_of starts (length more)))
    ∙ ap (λ cs. slice_range more s (start_of starts (length more)) ∷ cs) (behind all more starts)

start_joined : (starts begun : List ℕ) (end more : ℕ) → start_of begun more ≡ 0
    → start_of (starts ++ shifted begun end) (end + more) ≡ start_of starts end
start_joined [] begun end more z = start_shifted begun end more ∙ omega (arith, z)
start_joined (s ∷ starts) begun end more z = refl

joined : (all more : List ℤ) (starts begun : List ℕ) → Mounting starts (length all) → start_of begun (length more) ≡ 0
    → clauses_from (all ++ more) (starts ++ shifted begun (length all))
    ≡ clauses_from all starts ++ clauses_from more begun
joined all more [] begun m z = behind all more begun
joined all more (s ∷ starts) begun m z =
    ap (λ e. slice_range (all ++ more) s (start_of (starts ++ shifted begun (length all)) e)
    ∷ clauses_from (all ++ more) (starts ++ shifted begun (length all))) (length-append all more)
    ∙ ap (λ e. slice_range (all ++ more) s e ∷ clauses_from (all ++ more) (starts ++ shifted begun (length all)))
    (start_joined starts begun (length all) (length more) z)
    ∙ ap (λ c. c ∷ clauses_from (all ++ more) (starts ++ shifted begun (length all)))
    (part_kept all more s (start_of starts (length all)) m.0 (up starts (length all) m.1))
    ∙ ap (λ cs. slice_range all s (start_of starts (length all)) ∷ cs) (joined all more starts begun m.1 z)

mounting_shifted : (starts : List ℕ) (end more : ℕ) → Mounting starts more → Mounting (shifted starts end) (end + more)
mounting_shifted [] end more m = tt
mounting_shifted (s ∷ starts) end more m =
    (omega (arith, m.0, start_shifted starts end more), mounting_shifted starts end more m.1)

mounting_joined : (starts begun : List ℕ) (end more : ℕ) → Mounting starts end → Mounting begun more
    → start_of begun more ≡ 0 → Mounting (starts ++ shifted begun end) (end + more)
mounting_joined [] begun end more m n z = mounting_shifted begun end more n
mounting_joined (s ∷ starts) begun end more m n z =
    (omega (arith, m.0, start_joined starts begun end more z), mounting_joined starts begun end more m.1 n z)

fills : (starts begun : List ℕ) (end more : ℕ) → Fills starts end → Fills begun more
    → Fills (starts ++ shifted begun end) (end + more)
fills starts begun end more f g =
    (start_joined starts begun end more g.0 ∙ f.0, mounting_joined starts begun end more f.1 g.1 g.0)

pub joined_of : (all more : List ℤ) (starts begun : List ℕ) (end : ℕ) (literals : List ℤ) (places : List ℕ)
    → literals ≡ all ++ more → end ≡ length all → places ≡ starts ++ shifted begun end
    → Mounting starts (length all) → start_of begun (length more) ≡ 0
    → clauses_from literals places ≡ clauses_from all starts ++ clauses_from more begun
joined_of all more starts begun end literals places a e p m z =
    ap (λ l. clauses_from l places) a
    ∙ ap (clauses_from (all ++ more)) (p ∙ ap (λ n. starts ++ shifted begun n) e)
    ∙ joined all more starts begun m z

-- holds with the clauses of another formula
pub joins : (vars : ℕ) (all more : List ℤ) (starts begun : List ℕ) (end : ℕ) (literals : List ℤ) (places : List ℕ)
    → literals ≡ all ++ more → end ≡ length all → places ≡ starts ++ shifted begun end
    → AreClauses vars (clauses_from more begun) → Fills begun (length more)
    → Holds vars all starts → Holds vars literals places
joins vars all more starts begun end literals places a e p c f i = (
  i.0,
  subst (AreClauses vars) (sym (joined_of all more starts begun end literals places a e p i.2.1 f.0))
      (all_append (AreLiterals vars) (clauses_from all starts) (clauses_from more begun) i.1 c),
  subst (λ z. Fills places z) (sym (ap length a ∙ length-append all more))
      (subst (λ z. Fills z (length all + length more)) (sym (p ∙ ap (λ n. starts ++ shifted begun n) e))
      (fills starts begun (length all) (length more) i.2 f)),
)

literals_more : (vars more : ℕ) (lits : List ℤ) → vars ≤ more → AreLiterals vars lits → AreLiterals more lits
literals_more vars more [] l a = tt
literals_more vars more (lit ∷ lits) l a =
    ((a.0.0, omega (arith, a.0.1, l)), literals_more vars more lits l a.1)

pub clauses_more : (vars more : ℕ) (clauses : List (List ℤ)) → vars ≤ more → AreClauses vars clauses
    → AreClauses more clauses
clauses_more vars more [] l a = tt
clauses_more vars more (c ∷ cs) l a = (literals_more vars more c l a.0, clauses_more vars more cs l a.1)
