-- What spans of a word keep.
use Rattle.std.specs.Prelude.{◌≡◌, ◌<◌, ◌≤◌, true, List, ◌∷◌, nat_le, nat_lt}
use Rattle.std.specs.List.{list_all}
use Rattle.std.proofs.Common.{arith}
use Rattle.std.proofs.lemmas.Grind.{common_steps}
use Rattle.wn_net.proofs.Laws.{additions}
use Rattle.rv_table.proofs.AssembledLemmas.{first_true, second_true}
use Rattle.rv_expand.specs.declared.span.Span.{Span}
use Rattle.rv_expand.specs.Spans.{is_span}

pub low_first : (s : Span) → is_span s ≡ true → s.low ≤ s.high
low_first s e = let t : nat_le s.low s.high ≡ true = first_true _ _ e in grind (arith, common_steps)

pub high_within : (s : Span) → is_span s ≡ true → s.high < 32
high_within s e =
    let t : nat_lt s.high 32 ≡ true = second_true (nat_le s.low s.high) _ e in grind (arith, common_steps)

pub lawful_first : (s : Span) (ss : List Span) → list_all is_span (s ∷ ss) ≡ true → is_span s ≡ true
lawful_first s ss e = first_true _ _ e

pub lawful_rest : (s : Span) (ss : List Span) → list_all is_span (s ∷ ss) ≡ true → list_all is_span ss ≡ true
lawful_rest s ss e = second_true (is_span s) _ e

pub ruleset spans = (additions, low_first, high_within, lawful_first, lawful_rest)
