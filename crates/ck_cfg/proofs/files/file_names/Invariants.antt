use Rattle.std.proofs.Common.{◌≡◌, ◌++◌, drop}
use Rattle.std.specs.Prelude.{map}
use Rattle.ck_cfg.specs.Files.{filled, file_names_of}
use Rattle.ck_cfg.proofs.files.file_names.Given as goal

abbrev pub invariant-loop-name : goal.invariant-loop-name
invariant-loop-name l = l.names ++ map (filled l.core l.basedir) (drop l.name-index l.config.files)
    ≡ file_names_of l.config l.core l.basedir
