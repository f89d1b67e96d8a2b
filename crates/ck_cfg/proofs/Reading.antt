-- How a configuration is read, line by line.
use Rattle.std.proofs.Common.{◌≡◌, ℕ, List, [], ◌∷◌, ◌++◌, Result, Ok, Err, refl, ap, sym, ◌∙◌}
use Rattle.fv_lines.specs.Words.{lines, next_place}
use Rattle.ck_cfg.specs.declared.fault.CfgFault.{CfgFault}
use Rattle.ck_cfg.specs.declared.fault.CfgFault.TheVariants.{Section, Option, Depth, Isa, Missing, Twice, TooDeep}
use Rattle.ck_cfg.specs.declared.fault.CfgFault.TheVariants.{NotUtf8, Nret, Script, Memory}
use Rattle.ck_cfg.specs.declared.reader.Reader.{Reader}
use Rattle.fv_text.specs.Results.{and_then}
use Rattle.ck_cfg.specs.Faults.{OrMemory}
use Rattle.ck_cfg.specs.Line.{Line, trimmed, counted, counted_from}
use Rattle.ck_cfg.specs.Reading.{with_line, with_lines}

pub or_memory : {P Q : Type 0} (e : CfgFault) → (P → Q) → OrMemory e P → OrMemory e Q
or_memory (Section line name) f p = f p
or_memory (Option line key) f p = f p
or_memory (Depth line) f p = f p
or_memory (Isa line text) f p = f p
or_memory (Missing section) f p = f p
or_memory (Twice line key) f p = f p
or_memory (TooDeep line) f p = f p
or_memory NotUtf8 f p = f p
or_memory (Nret line) f p = f p
or_memory (Script line) f p = f p
or_memory Memory f p = tt

pub with_more : (r : Reader) (xs ys : List Line)
    → with_lines r (xs ++ ys) ≡ and_then (with_lines r xs) (λ s. with_lines s ys)
with_more r [] ys = refl
with_more r (x ∷ xs) ys = step (with_line r x) (λ s. with_more s xs ys) where
  step : (o : Result Reader CfgFault) → ((s : Reader)
      → with_lines s (xs ++ ys) ≡ and_then (with_lines s xs) (λ t. with_lines t ys))
      → and_then o (λ s. with_lines s (xs ++ ys)) ≡ and_then (and_then o (λ s. with_lines s xs)) (λ t. with_lines t ys)
  step (Err e) f = refl
  step (Ok s) f = f s

module _ (r : Reader) (n : ℕ) (rest behind text kept : List ℕ) (all : Result Reader CfgFault)
    (cut : lines rest ≡ text ∷ lines behind) (trims : kept ≡ trimmed text)
    (so_far : with_lines r (counted_from n (lines rest)) ≡ all) where
  whole : and_then (with_lines r (counted n kept)) (λ s. with_lines s (counted_from (next_place n) (lines behind)))
      ≡ all
  whole =
      ap (λ t. and_then (with_lines r (counted n t))
      (λ s. with_lines s (counted_from (next_place n) (lines behind)))) trims
      ∙ sym (with_more r (counted n (trimmed text)) (counted_from (next_place n) (lines behind)))
      ∙ ap (λ ls. with_lines r (counted_from n ls)) (sym cut) ∙ so_far

  -- one line more
  pub line_more : (s : Reader) → with_lines r (counted n kept) ≡ Ok s
      → with_lines s (counted_from (next_place n) (lines behind)) ≡ all
  line_more s e = sym (ap (λ o. and_then o (λ s. with_lines s (counted_from (next_place n) (lines behind)))) e) ∙ whole

  -- the line is refused
  pub line_refused : (e : CfgFault) → OrMemory e (with_lines r (counted n kept) ≡ Err e) → OrMemory e (all ≡ Err e)
  line_refused e h = or_memory e (λ g. sym whole
      ∙ ap (λ o. and_then o (λ s. with_lines s (counted_from (next_place n) (lines behind)))) g) h
