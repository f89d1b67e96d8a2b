-- Want of memory before a run.
use Rattle.std.proofs.Common.{◌≡◌, ℕ, [], Result, Ok, Err, IfErr}
use Rattle.rvf_core.specs.Outcome.{Outside}
use Rattle.rvf_core.specs.Status.{code_of}
use Rattle.rvf_core.specs.Statuses.statuses as s
use Rattle.rvf_core.proofs.FromWords.{memory_at_once}
use Rattle.rvf.specs.Exit.{Exits}

-- the code of want of memory, where nothing was done
pub memory_exits : {A E : Type 0} (words : Result A E) (code : ℕ) (outside : Outside) → code ≡ code_of s.Memory
    → IfErr words (λ fault. Exits code (record { words = []; before = outside; now = outside }))
memory_exits (Ok words) code outside is = tt
memory_exits (Err fault) code outside is = record {
  status = s.Memory;
  code_is = is;
  answers = (memory_at_once [] outside).0;
  exact = (memory_at_once [] outside).1;
}
