-- Between functions: Parts whose values at first may be written. Rule of this project.
use Rattle.vl_mean.specs.Parts.{Part, declares, equation, combinational, clocked, starts}
use Rattle.vl_elab_emit.specs.Starts.{IsStart}

abbrev pub Begins : Part → Type 0
Begins (declares d) = Unit {0}
Begins (equation ts l ss e) = Unit {0}
Begins (combinational ss s) = Unit {0}
Begins (clocked ss s) = Unit {0}
Begins (starts ss l e) = IsStart ss l e
