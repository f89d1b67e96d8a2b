-- The names of sources are what is free.
use Rattle.std.specs.Prelude.{ℕ, List, All}
use Rattle.vl_size.specs.declared.decl.Decl.{Decl}
use Rattle.vl_size.specs.Size.{Values}
use Rattle.vl_size.specs.Table.{AreApart, AreDifferent, IsShaped}
use Rattle.vl_mean.specs.declared.driver.Driver.{Driver}
use Rattle.vl_mean.specs.declared.driver.Start.{Start}
use Rattle.vl_mean.specs.FlatLaw.{IsLawful}
use Rattle.vl_mean.specs.FlatParts.{parts_of}
use Rattle.vl_flow_spec.specs.Reads.{AreInRange}
use Rattle.vl_flow_spec.specs.Refusals.{HasNoRefusal}
use Rattle.vl_flow_spec.specs.Sequence.{IsSequence}
use Rattle.vl_flow_spec.proofs.Choices.{in_range_of}
use Rattle.wn_net.specs.declared.names.Names.{Names}
use Rattle.wn_net.specs.Net.{Netlist}
use Rattle.vl_lower_spec.specs.Built.{AreRanged, NameWhatIsFree}
use Rattle.vl_lower_spec.specs.Sources.{AreSources, NamedSourcesAreFree}
use Rattle.vl_lower_spec.proofs.Begins as begins
use Rattle.vl_lower_spec.proofs.Changing as changing
use Rattle.vl_lower_spec.proofs.Fits.{fits}
use Rattle.vl_lower_spec.proofs.Free as free

module _ (ds : List Decl) (drivers : List Driver) (firsts : List Start) (s : List ℕ) (net : Netlist) (names : Names)
    (shaped : All IsShaped ds) (different : AreDifferent ds) (apart : AreApart ds) (lawful : IsLawful ds drivers firsts)
    (none : HasNoRefusal ds drivers) (order : IsSequence ds drivers s)
    (own : AreSources ds (parts_of ds drivers firsts) net names) where
  ok_of : (v : Values) → AreRanged ds v → AreInRange ds v
  ok_of v r =
      in_range_of ds drivers firsts
      (free.declared ds drivers firsts shaped different apart lawful none s order net names own) v r

  whole : NameWhatIsFree ds (parts_of ds drivers firsts) net names
  whole = record {
    fits = λ v r. fits ds (parts_of ds drivers firsts) net names own v (ok_of v r);
    free = λ u v r q. (
      free.given_same ds drivers firsts shaped different apart lawful none s order net names own u v (ok_of u r)
          (ok_of v q),
      free.chooses_same ds drivers firsts shaped different apart lawful none s order net names own u v,
    );
    kept = λ u v r q. (
      λ h. free.state_same ds drivers firsts shaped different apart lawful none s order net names own u v (ok_of u r)
          (ok_of v q)
          (free.kept_bits ds drivers firsts shaped different apart lawful none s order net names own u v h),
      free.state_alike ds drivers firsts shaped different apart lawful none s order net names own u v,
    );
    begins = λ v r. (
      begins.starts_of ds drivers firsts shaped different apart lawful none s order net names own v (ok_of v r),
      begins.begins_of ds drivers firsts shaped different apart lawful none s order net names own v (ok_of v r),
    );
    resets = λ v y r. (
      changing.reset_to ds drivers firsts shaped different apart lawful none s order net names own v (ok_of v r) y,
      changing.reset_from ds drivers firsts shaped different apart lawful none s order net names own v (ok_of v r) y,
    );
    once = λ v u r q. (
      changing.once_to ds drivers firsts shaped different apart lawful none s order net names own v u (ok_of v r)
          (ok_of u q),
      changing.once_from ds drivers firsts shaped different apart lawful none s order net names own v u (ok_of v r)
          (ok_of u q),
    );
  }

pub are_free : NamedSourcesAreFree
are_free ds drivers firsts s net names shaped different apart lawful none order own =
    whole ds drivers firsts s net names shaped different apart lawful none order own
