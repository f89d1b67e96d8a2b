-- What loops over lists of targets keep.
use Rattle.std.proofs.Common.{◌≡◌, ℕ, List, [], ◌∷◌, ◌++◌, refl, sym, ap, ◌∙◌, subst}
use Rattle.fv_text.specs.declared.kind.Kind.TheVariants as k
use Rattle.fv_text.specs.declared.symbol.Symbol.TheVariants as s
use Rattle.fv_text.specs.declared.token.Token.{Token}
use Rattle.vl_tree.specs.Phrase.{Spells, IsNext}
use Rattle.vl_tree.specs.Lval.{Lval, Lvals, no_lvals, more_lvals, lvals}
use Rattle.vl_tree.specs.LvalSpelling.{spell, spell_parts, spell_more}
use Rattle.vl_tree.specs.LvalWellFormed.{IsWellFormed, AreWellFormed, IsSome}

more_pushed : (ls : List Lval) (l : Lval) (start middle behind rest : List Token)
    → Spells (spell_more (lvals ls)) start middle
    → IsNext (k.Symbol s.Comma) middle behind → Spells (spell l) behind rest
    → Spells (spell_more (lvals (ls ++ l ∷ []))) start rest
more_pushed [] l start middle behind rest h i j =
    (behind, subst (λ ts. IsNext (k.Symbol s.Comma) ts behind) (sym h) i, (rest, j, refl))
more_pushed (x ∷ ls) l start middle behind rest (m, h, (n, i, j)) o p =
    (m, h, (n, i, more_pushed ls l n middle behind rest j o p))

pub lvals_pushed : (ls : List Lval) (l : Lval) (start middle behind rest : List Token) → IsSome (lvals ls)
    → Spells (spell_parts (lvals ls)) start middle
    → IsNext (k.Symbol s.Comma) middle behind → Spells (spell l) behind rest
    → Spells (spell_parts (lvals (ls ++ l ∷ []))) start rest
lvals_pushed [] l start middle behind rest n h i j = absurd n
lvals_pushed (x ∷ ls) l start middle behind rest n (m, h, o) i j = (m, h, more_pushed ls l m middle behind rest o i j)

pub lvals_first : (l : Lval) (start rest : List Token) → Spells (spell l) start rest
    → Spells (spell_parts (lvals (l ∷ []))) start rest
lvals_first l start rest h = (rest, h, refl)

pub lvals_formed : (ls : List Lval) (l : Lval) → AreWellFormed (lvals ls) → IsWellFormed l
    → AreWellFormed (lvals (ls ++ l ∷ []))
lvals_formed [] l h i = (i, tt)
lvals_formed (x ∷ ls) l h i = (h.0, lvals_formed ls l h.1 i)

pub lvals_some : (ls : List Lval) (l : Lval) → IsSome (lvals (ls ++ l ∷ []))
lvals_some [] l = tt
lvals_some (x ∷ ls) l = tt

pub ruleset lval_spelled = (lvals_pushed, lvals_first, lvals_formed, lvals_some)
