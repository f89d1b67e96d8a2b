-- Between functions: Where a step is too large, and otherwise where it stands. Rule of this project.
use Rattle.std.specs.Prelude.{if◌then◌else◌}
use Rattle.fv_text.specs.declared.pos.Pos.{Pos}
use Rattle.vl_mean.specs.Walk.{Step}
use Rattle.vl_elab_spec.specs.Counts.{step_pos}
use Rattle.vl_elab_spec.specs.Refused.{Totals, counted, is_too_large, large_pos}

abbrev pub judged_pos : Totals → Step → Pos
judged_pos t x = if is_too_large (counted t x) then large_pos t x else step_pos x
