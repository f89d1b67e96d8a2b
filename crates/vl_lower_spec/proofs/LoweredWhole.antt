-- A net that is built in steps is that of the design.
use Rattle.std.specs.Prelude.{◌≡◌, refl, ℕ, List, [], ◌∷◌, All, Option, Some, None, slice_get}
use Rattle.std.proofs.Common.{sym, ◌∙◌, subst}
use Rattle.vl_size.specs.declared.decl.Decl.{Decl}
use Rattle.vl_size.specs.Size.{Values}
use Rattle.vl_size.specs.Table.{AreApart, AreDifferent, IsShaped}
use Rattle.vl_mean.specs.declared.driver.Driver.{Driver}
use Rattle.vl_mean.specs.declared.driver.Start.{Start}
use Rattle.vl_mean.specs.FlatLaw.{IsLawful}
use Rattle.vl_mean.specs.FlatParts.{parts_of}
use Rattle.vl_mean.specs.Parts.{Part}
use Rattle.vl_mean.specs.Runs.{Agrees, ChoosesAlike, Holds, Next}
use Rattle.vl_flow_spec.specs.Settle.{settle}
use Rattle.vl_flow_spec.specs.Refusals.{HasNoRefusal}
use Rattle.vl_flow_spec.specs.Sequence.{IsSequence}
use Rattle.vl_flow_spec.proofs.Chain.{kinds, with_kind}
use Rattle.vl_flow_spec.proofs.Held as held
use Rattle.vl_lower_spec.specs.Evaluations.{IsLowered}
use Rattle.vl_lower_spec.specs.Maps.{given_of, map_of, state_of}
use Rattle.wn_net.specs.declared.names.Names.{Names}
use Rattle.wn_net.specs.Value.{Given}
use Rattle.wn_net.specs.Net.{Netlist}
use Rattle.wn_net.specs.Given.{IsGiven}
use Rattle.wn_net.specs.Next.{next_state}
use Rattle.vl_lower_spec.specs.Built.{AreRanged, AreSettledNames, BuiltNetsAreLowered, HasNextMap, IsBuilt}
use Rattle.vl_lower_spec.specs.Settled.{driven_by_this, settled}
use Rattle.vl_lower_spec.specs.Spots.{AreSources}
use Rattle.vl_lower_spec.proofs.Agreeing as agreeing
use Rattle.vl_lower_spec.proofs.Declaring.{parts_declare}
use Rattle.vl_lower_spec.proofs.Kept as kept

-- by numbers of drivers as by the drivers
pub settled_is : (ds : List Decl) (drivers : List Driver) (s : List ℕ) (v : Values)
    → settled ds drivers s v ≡ settle ds (kinds drivers s) v
settled_is ds drivers [] v = refl
settled_is ds drivers (i ∷ is) v = by (slice_get drivers i) (λ w. settled_is ds drivers is w)
  where
    by : (o : Option Driver) → ((w : Values) → settled ds drivers is w ≡ settle ds (kinds drivers is) w)
        → settled ds drivers is (driven_by_this ds o v) ≡ settle ds (with_kind drivers o (kinds drivers is)) v
    by None f = f v
    by (Some x) f = f (driven_by_this ds (Some x) v)

module _ (ds : List Decl) (drivers : List Driver) (firsts : List Start) (s : List ℕ) (net : Netlist) (names : Names)
    (shaped : All IsShaped ds) (different : AreDifferent ds) (apart : AreApart ds) (lawful : IsLawful ds drivers firsts)
    (none : HasNoRefusal ds drivers) (order : IsSequence ds drivers s) (b : IsBuilt ds drivers firsts s net names) where
  abbrev ps : List Part
  ps = parts_of ds drivers firsts

  abbrev map_at : Given → Values
  map_at g = map_of net names g

  -- ---- the map of a cycle

  module _ (g : Given) (is : IsGiven net g) where
    at : AreSettledNames ds ps drivers s net names g
    at = b.settles g is

    abbrev made : Values
    made = settled ds drivers s at.first

    made_holds : Holds ps made × ChoosesAlike ps made at.first
    made_holds =
        subst (λ (v : Values). Holds ps v × ChoosesAlike ps v at.first) (sym (settled_is ds drivers s at.first))
        (held.settled_holds ds drivers firsts shaped different apart lawful none s order at.first at.ranged)

    made_ranged : AreRanged ds made
    made_ranged =
        agreeing.ranged_of ds drivers firsts shaped different apart lawful none s order made made_holds.0

    map_ranged : AreRanged ds (map_at g)
    map_ranged =
        agreeing.ranged_as ds drivers firsts shaped different apart lawful none s order (map_at g) made at.names_are
        made_ranged

    made_given : given_of names made ≡ g
    made_given = (b.free.free made at.first made_ranged at.ranged).0 made_holds.1 ∙ at.same

    map_holds : Holds ps (map_at g)
    map_holds =
        agreeing.holds_as ds drivers firsts shaped different apart lawful none s order (map_at g) made at.names_are
        made_holds.0

    map_given : given_of names (map_at g) ≡ g
    map_given =
        (b.free.free (map_at g) made map_ranged made_ranged).0
        (agreeing.chosen_as ds drivers firsts shaped different apart lawful none s order (map_at g) made at.names_are)
        ∙ made_given

  -- ---- a map that holds

  module _ (v : Values) (holds : Holds ps v) where
    ranged : AreRanged ds v
    ranged = agreeing.ranged_of ds drivers firsts shaped different apart lawful none s order v holds

    fits : IsGiven net (given_of names v)
    fits = b.free.fits v ranged

    abbrev g : Given
    g = given_of names v

    agrees : Agrees ps (map_at g) v
    agrees =
        agreeing.agree_on ds drivers firsts shaped different apart lawful none s order (map_at g) (made g fits) v
        (at g fits).names_are
        (held.has_one_map ds drivers firsts shaped different apart lawful none s order (made g fits) v
        (made_holds g fits).0 holds
        ((b.free.free (made g fits) v (made_ranged g fits) ranged).1 (made_given g fits)))

    agrees_back : Agrees ps v (map_at g)
    agrees_back =
        agreeing.agree_back ds drivers firsts shaped different apart lawful none s order (map_at g) v agrees

    after : HasNextMap ds ps net names g
    after = b.steps g fits

    may_come : Next ps v after.next
    may_come =
        agreeing.next_as ds drivers firsts shaped different apart lawful none s order v (map_at g) after.next agrees_back
        (map_ranged g fits) after.may_come

    steps_to : (u : Values) → Holds ps u → Next ps v u → state_of names u ≡ next_state net g
    steps_to u is h =
        (b.free.kept u after.next (agreeing.ranged_of ds drivers firsts shaped different apart lawful none s order u is)
        after.ranged).0
        (kept.next_kept ds drivers firsts shaped different apart lawful none s order v u after.next h may_come)
        ∙ sym after.same

    steps_from : (u : Values) → Holds ps u → state_of names u ≡ next_state net g → Next ps v u
    steps_from u is h =
        kept.kept_next ds drivers firsts shaped different apart lawful none s order v u after.next
        ((b.free.kept u after.next (agreeing.ranged_of ds drivers firsts shaped different apart lawful none s order u is)
        after.ranged).1 (h ∙ after.same)) may_come

  whole : IsLowered ps net names
  whole = record {
    entries = b.entries;
    named = b.named;
    all = b.all;
    shown = b.shown;
    sources =
        subst (λ xs. AreSources xs ps net names) (sym (parts_declare ds drivers firsts)) b.sources;
    different = subst AreDifferent (sym (parts_declare ds drivers firsts)) different;
    apart = subst AreApart (sym (parts_declare ds drivers firsts)) apart;
    holds = map_holds;
    back = map_given;
    given = fits;
    whole = agrees;
    steps = λ v u hv hu. (steps_to v hv u hu, steps_from v hv u hu);
    starts = λ v hv. b.free.begins v (ranged v hv);
    resets = λ v y hv. b.free.resets v y (ranged v hv);
    once = λ v u hv hu. b.free.once v u (ranged v hv) (ranged u hu);
    assumes = λ v hv. (
      λ h. (b.assumes (g v hv) (fits v hv)).0
          (agreeing.assumes_as ds drivers firsts shaped different apart lawful none s order (map_at (g v hv)) v (agrees v hv)
          (ranged v hv) h),
      λ met. agreeing.assumes_as ds drivers firsts shaped different apart lawful none s order v (map_at (g v hv))
          (agrees_back v hv) (map_ranged (g v hv) (fits v hv)) ((b.assumes (g v hv) (fits v hv)).1 met),
    );
  }

pub lowered : BuiltNetsAreLowered
lowered ds drivers firsts s net names shaped different apart lawful none order b =
    whole ds drivers firsts s net names shaped different apart lawful none order b
