-- Meaning: That equal calls answer one number (rule of this project).
use Rattle.std.specs.Prelude.{◌≡◌, ℕ}
use Rattle.wn_net.specs.declared.node.Node.{Node}
use Rattle.wn_net.specs.Width.{IsFitting}
use Rattle.wn_net.specs.Net.{Netlist, shape_of, widths_of}
use Rattle.wn_net.specs.Changes.{Grows}
use Rattle.wn_opt.specs.Hashing.{Answers}

-- However much is added between them, a later call for a node answers what an earlier one did, and adds nothing.
abbrev pub EqualCallsAnswerOneNumber : Type 0
EqualCallsAnswerOneNumber =
    (a b c d : Netlist) (x : Node) (id later : ℕ) → IsFitting (shape_of a) (widths_of a) x → Grows a b → Answers a b x id
    → Grows b c → Answers c d x later → (later ≡ id) × (d ≡ c)
