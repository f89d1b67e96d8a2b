-- Meaning: What targets spell. IEEE 1364-2005, section A.8.5.
use Rattle.fv_text.specs.declared.symbol.Symbol.TheVariants as s
use Rattle.vl_tree.specs.ExprSpelling.{spell_selects}
use Rattle.vl_tree.specs.Lval.{Lval, Lvals, named, joined, no_lvals, more_lvals}
use Rattle.vl_tree.specs.Phrase.{Phrase, nothing, ◌▸◌, at, sign, a_name, braces}

abbrev mutual
  pub spell : Lval → Phrase
  spell (named p text ss) = at p (a_name text ▸ spell_selects ss)
  spell (joined p ls) = at p (braces (spell_parts ls))

  -- with commas between them
  pub spell_parts : Lvals → Phrase
  spell_parts no_lvals = nothing
  spell_parts (more_lvals l ls) = spell l ▸ spell_more ls

  pub spell_more : Lvals → Phrase
  spell_more no_lvals = nothing
  spell_more (more_lvals l ls) = sign s.Comma ▸ spell l ▸ spell_more ls
