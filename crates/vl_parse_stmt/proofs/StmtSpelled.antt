-- What nodes of statements spell, and what loops over their lists keep.
use Rattle.std.proofs.Common.{◌≡◌, ℕ, suc, ◌+◌, ◌≤◌, ◌<◌, List, [], ◌∷◌, ◌++◌, length, refl, sym, ap, ◌∙◌, subst, arith}
use Rattle.std.specs.Prelude.{Option, Some, None}
use Rattle.fv_text.specs.declared.pos.Pos.{Pos}
use Rattle.fv_text.specs.declared.token.Token.{Token}
use Rattle.fv_text.specs.declared.kind.Kind.TheVariants as k
use Rattle.fv_text.specs.declared.keyword.Keyword.TheVariants as w
use Rattle.vl_tree.specs.Phrase.{Spells, IsNext, BeginsAt, word, ◌▸◌}
use Rattle.vl_tree.specs.Stmt.{Stmt, Stmts, Arms, begin, no_stmts, more_stmts, stmts}
use Rattle.vl_tree.specs.declared.stmt.Arm.{Arm}
use Rattle.vl_tree.specs.declared.stmt.Arm.TheVariants as a
use Rattle.vl_tree.specs.declared.stmt.CaseKind.{CaseKind}
use Rattle.vl_tree.specs.StmtView.{arms}
use Rattle.vl_tree.specs.StmtSpelling.{spell, spell_all, spell_arms}
use Rattle.vl_tree.specs.StmtWellFormed.{IsWellFormed, AreWellFormed, IsInitial, AreInitial, AreArms, AreArmsSome}
use Rattle.vl_tree.specs.StmtWellFormed.{default_count}

pub stmts_pushed : (xs : List Stmt) (x : Stmt) (start middle rest : List Token)
    → Spells (spell_all (stmts xs)) start middle
    → Spells (spell x) middle rest → Spells (spell_all (stmts (xs ++ x ∷ []))) start rest
stmts_pushed [] x start middle rest h i = (rest, subst (λ ts. Spells (spell x) ts rest) (sym h) i, refl)
stmts_pushed (y ∷ xs) x start middle rest (m, h, j) i = (m, h, stmts_pushed xs x m middle rest j i)

pub stmts_formed : (xs : List Stmt) (x : Stmt) → AreWellFormed (stmts xs) → IsWellFormed x
    → AreWellFormed (stmts (xs ++ x ∷ []))
stmts_formed [] x h i = (i, tt)
stmts_formed (y ∷ xs) x h i = (h.0, stmts_formed xs x h.1 i)

pub initials_pushed : (xs : List Stmt) (x : Stmt) → AreInitial (stmts xs) → IsInitial x
    → AreInitial (stmts (xs ++ x ∷ []))
initials_pushed [] x h i = (i, tt)
initials_pushed (y ∷ xs) x h i = (h.0, initials_pushed xs x h.1 i)

-- a block without label
pub bare_block : (p : Pos) (ss : Stmts) (ts inside rest : List Token) → BeginsAt p ts
    → IsNext (k.Keyword w.Begin) ts inside
    → Spells (spell_all ss ▸ word w.End) inside rest → Spells (spell (begin [] p None ss)) ts rest
bare_block p ss ts inside rest h b (m, all, e) = (ts, refl, (h, (m, (inside, b, (inside, refl, all)), e)))

pub ruleset stmt_spelled = (stmts_pushed, stmts_formed, initials_pushed)

-- arms

pub arms_pushed : (xs : List Arm) (x : Arm) (start middle rest : List Token)
    → Spells (spell_arms (arms xs)) start middle
    → Spells (spell_arms (arms (x ∷ []))) middle rest → Spells (spell_arms (arms (xs ++ x ∷ []))) start rest
arms_pushed [] x start middle rest h i = subst (λ ts. Spells (spell_arms (arms (x ∷ []))) ts rest) (sym h) i
arms_pushed (a.Labels p es s ∷ xs) x start middle rest (m, h, j) i = (m, h, arms_pushed xs x m middle rest j i)
arms_pushed (a.Default p colon s ∷ xs) x start middle rest (m, h, j) i = (m, h, arms_pushed xs x m middle rest j i)

pub arms_formed : (kind : CaseKind) (xs : List Arm) (x : Arm) → AreArms kind (arms xs) → AreArms kind (arms (x ∷ []))
    → AreArms kind (arms (xs ++ x ∷ []))
arms_formed kind [] x h i = i
arms_formed kind (a.Labels p es s ∷ xs) x h i = (h.0, h.1, arms_formed kind xs x h.2 i)
arms_formed kind (a.Default p colon s ∷ xs) x h i = (h.0, arms_formed kind xs x h.1 i)

pub arms_counted : (xs : List Arm) (x : Arm)
    → default_count (arms (xs ++ x ∷ [])) ≡ default_count (arms xs) + default_count (arms (x ∷ []))
arms_counted [] x = omega arith
arms_counted (a.Labels p es s ∷ xs) x = arms_counted xs x
arms_counted (a.Default p colon s ∷ xs) x = omega (arith, arms_counted xs x)

pub arms_some : (xs : List Arm) (x : Arm) → AreArmsSome (arms (xs ++ x ∷ []))
arms_some [] (a.Labels p es s) = tt
arms_some [] (a.Default p colon s) = tt
arms_some (a.Labels p es s ∷ xs) x = tt
arms_some (a.Default p colon s ∷ xs) x = tt

pub ruleset arms_spelled = (arms_pushed, arms_formed, arms_counted, arms_some)
