use Rattle.std.proofs.Common.{◌≡◌, ◌++◌, drop}
use Rattle.std.specs.Prelude.{map}
use Rattle.std.specs.List.{filter}
use Rattle.ck_cfg.specs.Kind.{is_kind}
use Rattle.vl_text.specs.Texts.{texts_seen}
use Rattle.rvf_case.specs.Texts.{line_text, lines_for}
use Rattle.rvf_case.proofs.asked.lines_for.Given as goal

abbrev pub invariant-loop-piece : goal.invariant-loop-piece
invariant-loop-piece l =
    texts_seen l.lines.items ++ map line_text (drop l.piece-index l.config.defines) ≡ map line_text l.config.defines

abbrev pub invariant-loop-define : goal.invariant-loop-define
invariant-loop-define l =
    texts_seen l.lines.items ++ map line_text (map (λ x. x.piece) (filter (λ x. is_kind x.kind l.kind)
    (drop l.define-index l.config.kind_defines))) ≡ map line_text (lines_for l.config l.kind)
