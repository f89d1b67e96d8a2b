-- The phases together: what each promises makes the net that of the design.
use Rattle.std.specs.Prelude.{◌≡◌, ℕ, ◌<◌, ◌↔◌, List, ◌++◌, All}
use Rattle.std.specs.List.{AllByRecursion}
use Rattle.std.proofs.Common.{sym, ◌∙◌, subst}
use Rattle.vl_size.specs.declared.decl.Decl.{Decl}
use Rattle.vl_size.specs.Size.{Values}
use Rattle.vl_size.specs.Table.{AreApart, AreDifferent, IsShaped}
use Rattle.vl_mean.specs.declared.driver.Driver.{Driver}
use Rattle.vl_mean.specs.declared.driver.Start.{Start}
use Rattle.vl_mean.specs.FlatLaw.{IsLawful}
use Rattle.vl_mean.specs.FlatParts.{parts_of}
use Rattle.vl_mean.specs.Parts.{Part}
use Rattle.vl_mean.specs.Runs.{Agrees, ChoosesAlike, Each, Holds, PartAssumes}
use Rattle.vl_flow_spec.specs.Refusals.{HasNoRefusal}
use Rattle.vl_flow_spec.specs.Sequence.{IsSequence}
use Rattle.vl_flow_spec.proofs.Held as held
use Rattle.vl_lower_spec.specs.Maps.{AreEntriesOf, listed, map_of}
use Rattle.wn_net.specs.declared.names.Names.{Names}
use Rattle.wn_net.specs.Value.{Given}
use Rattle.wn_net.specs.Net.{Netlist, value_at}
use Rattle.wn_net.specs.Given.{IsGiven}
use Rattle.wn_net.specs.Changes.{Keeps}
use Rattle.wn_net.specs.Names.{AreNamesOf, HaveAll, ShowNames}
use Rattle.wn_net.proofs.Laws.{keeps_on}
use Rattle.wn_run.specs.Runs.{IsMet}
use Rattle.vl_lower_assign.specs.Frames.{Stand}
use Rattle.vl_lower_spec.specs.Built.{AreRanged, AreSettledNames, HasNextMap, IsBuilt, NameWhatIsFree}
use Rattle.vl_lower_spec.specs.Settled.{settled}
use Rattle.vl_lower_spec.proofs.Agreeing as agreeing
use Rattle.vl_lower_spec.proofs.LoweredWhole.{lowered, settled_is}
use Rattle.vl_lower_spec.specs.Sources.{AreSources}
use Rattle.vl_lower_spec.proofs.NamedWhole.{are_free}
use Rattle.vl_lower_spec.proofs.Writing.{next_is}
use Rattle.vl_lower_cell_laws.specs.Ticked.{ticked}
use Rattle.vl_lower_cell_laws.proofs.Next.{may_come}
use Rattle.vl_lower_cell_laws.specs.Left.{left, seen_at_edges, seen_in}
use Rattle.vl_lower_cell_laws.proofs.Assumes.{seen_assumed}
use Rattle.vl_lower_cell_laws.proofs.Keeps.{kept_bits}
use Rattle.vl_lower_cell_laws.specs.Cycles.{Tell}
use Rattle.vl_lower_cell_laws.proofs.Agree.{agree}
use Rattle.vl_lower_cell_laws.proofs.Listed.{are_listed}
use Rattle.vl_lower_cell_laws.proofs.SourcesWhole.{are_named}
use Rattle.vl_lower_cell_laws.proofs.Showing.{are_shown}
use Rattle.vl_lower_cell_laws.proofs.ShownWhole.{are_whole}
use Rattle.vl_lower_state.specs.Phases.{ArePhases, BeginCycle, ClosesCycle, PhasesLower}
use Rattle.vl_lower_state.proofs.Remaining.{memories_stay}
use Rattle.vl_lower_state.proofs.Fitting.{cells_kept, met_behind, met_both, met_front, met_of, of_met, stand_kept}
use Rattle.vl_lower_state.proofs.Fitting.{stands_in_range}

module _ (ds : List Decl) (drivers : List Driver) (firsts : List Start) (s : List ℕ) (net : Netlist) (names : Names)
    (shaped : All IsShaped ds) (different : AreDifferent ds) (apart : AreApart ds) (lawful : IsLawful ds drivers firsts)
    (none : HasNoRefusal ds drivers) (order : IsSequence ds drivers s)
    (b : ArePhases ds drivers firsts s net names) where
  abbrev ps : List Part
  ps = parts_of ds drivers firsts

  module _ (g : Given) (is : IsGiven net g) where
    on : IsGiven b.begun g
    on = (b.begins g is).0

    at : BeginCycle ds ps b.begun names b.first_cells g
    at = (b.begins g is).1

    middle : IsGiven b.settled g
    middle = b.settles.adds.keeps.given g on

    last : IsGiven b.ticked g
    last = b.ticks.adds.keeps.given g middle

    -- ---- the settled map

    abbrev made : Values
    made = settled ds drivers s at.first

    abbrev over : Values
    over = left ds drivers s at.first at.first

    settling : Stand b.settled g ds b.settled_cells.now made × Stand b.settled g ds b.settled_cells.next over
        × Tell b.settled g (seen_in ds drivers s at.first) b.on_the_way
    settling = b.settles.comes g at.first at.first on at.now at.next

    made_holds : Holds ps made × ChoosesAlike ps made at.first
    made_holds =
        subst (λ (v : Values). Holds ps v × ChoosesAlike ps v at.first) (sym (settled_is ds drivers s at.first))
        (held.settled_holds ds drivers firsts shaped different apart lawful none s order at.first at.ranged)

    made_ranged : AreRanged ds made
    made_ranged =
        agreeing.ranged_of ds drivers firsts shaped different apart lawful none s order made made_holds.0

    named : Agrees ps (map_of net names g) made
    named =
        agree ds drivers firsts b.settled_cells.now net names g made b.entries
        (stand_kept b.settled net g ds b.settled_cells.now made
        (keeps_on b.settled b.ticked net b.ticks.adds.keeps b.keeps) b.settles.frame.now settling.0)
        (memories_stay ds drivers firsts s shaped different apart lawful none order made at.first made_ranged at.ranged
        made_holds.1 g at.memories)

    settles : AreSettledNames ds ps drivers s net names g
    settles = record { first = at.first; ranged = at.ranged; same = at.same; names_are = named }

    -- ---- the next map

    abbrev next : Values
    next = ticked ds drivers made over

    ticking : Stand b.ticked g ds b.ticked_cells.now made × Stand b.ticked g ds b.ticked_cells.next next
        × Tell b.ticked g (seen_at_edges ds drivers made) b.at_the_edge
    ticking = b.ticks.comes g made over middle settling.0 settling.1

    closing : ClosesCycle ds net names b.ticked_cells g next
    closing = b.closes g next is ticking.1

    steps : HasNextMap ds ps net names g
    steps = record {
      next = next;
      ranged = stands_in_range b.ticked g ds b.ticked_cells.next next b.whole last b.ticks.frame.next ticking.1;
      same = next_is net names g next is closing.regs closing.mems;
      may_come =
          agreeing.next_as ds drivers firsts shaped different apart lawful none s order (map_of net names g) made next
          named made_ranged
          (may_come ds drivers firsts s shaped different apart lawful none order made over
          (kept_bits ds drivers firsts s shaped different apart lawful none order at.first at.ranged));
    }

    -- ---- assumptions

    all_kept : Keeps b.settled net
    all_kept = keeps_on b.settled b.ticked net b.ticks.adds.keeps b.keeps

    assumed : (Each (λ x. 0 < x) (seen_in ds drivers s at.first) × Each (λ x. 0 < x) (seen_at_edges ds drivers made))
        ↔ Each (PartAssumes made) ps
    assumed = seen_assumed ds drivers firsts s shaped different apart lawful none order at.first at.ranged

    back : Agrees ps made (map_of net names g)
    back =
        agreeing.agree_back ds drivers firsts shaped different apart lawful none s order (map_of net names g) made named

    map_ranged : AreRanged ds (map_of net names g)
    map_ranged =
        agreeing.ranged_as ds drivers firsts shaped different apart lawful none s order (map_of net names g) made named
        made_ranged

    met : Each (PartAssumes (map_of net names g)) ps ↔ IsMet net g
    met = (
      λ h.
          let seen = assumed.1
          (agreeing.assumes_as ds drivers firsts shaped different apart lawful none s order made
          (map_of net names g) back map_ranged h) in
          subst (λ (ids : List ℕ). Met ids) (sym b.assumes)
          (met_both b.ticked net g b.keeps b.on_the_way b.at_the_edge
          (met_of b.settled net g all_kept b.on_the_way b.settles.there (settling.2.0 seen.0))
          (met_of b.ticked net g b.keeps b.at_the_edge b.ticks.there (ticking.2.0 seen.1))),
      λ h.
          let all : Met (b.on_the_way ++ b.at_the_edge) = subst (λ (ids : List ℕ). Met ids) b.assumes h in
          agreeing.assumes_as ds drivers firsts shaped different apart lawful none s order (map_of net names g) made
          named made_ranged (assumed.0 (
            settling.2.1 (of_met b.settled net g all_kept b.on_the_way b.settles.there
                (met_front b.ticked net g b.keeps b.on_the_way b.at_the_edge all)),
            ticking.2.1 (of_met b.ticked net g b.keeps b.at_the_edge b.ticks.there
                (met_behind b.ticked net g b.keeps b.on_the_way b.at_the_edge all)),
          )),
    )
      where
        Met : List ℕ → Type 0
        Met ids = AllByRecursion (λ id. value_at net g id ≡ 0 → ⊥) ids

  -- ---- names

  sources : AreSources ds ps net names
  sources =
      are_named ds ps b.keep b.settled_cells.now net names shaped different lawful.kept b.keeps_are b.entries b.sources

  whole : AreNamesOf net names × HaveAll net names
  whole =
      are_whole ds ps b.keep b.settled_cells.now net names shaped different apart lawful.kept b.keeps_are b.entries
      b.sources
      (cells_kept b.settled net ds b.settled_cells.now
      (keeps_on b.settled b.ticked net b.ticks.adds.keeps b.keeps) b.settles.frame.now)

  free : NameWhatIsFree ds ps net names
  free = are_free ds drivers firsts s net names shaped different apart lawful none order sources

  shown : (g : Given) → IsGiven net g → ShowNames net names g
  shown g is =
      are_shown ds ps b.settled_cells.now net names g (made g is) different apart lawful.kept b.entries sources
      (stand_kept b.settled net g ds b.settled_cells.now (made g is)
      (keeps_on b.settled b.ticked net b.ticks.adds.keeps b.keeps) b.settles.frame.now (settling g is).0)
      ((free.free (made g is) (at g is).first (made_ranged g is) (at g is).ranged).0 (made_holds g is).1 ∙ (at g is).same)

  built : IsBuilt ds drivers firsts s net names
  built = record {
    entries =
        subst (λ xs. AreEntriesOf (listed ps) xs) (sym b.entries)
        (are_listed ds drivers firsts b.settled_cells.now);
    named = whole.0;
    all = whole.1;
    shown = shown;
    sources = sources;
    free = free;
    settles = settles;
    steps = steps;
    assumes = met;
  }

pub lower : PhasesLower
lower ds drivers firsts s net names shaped different apart lawful none order b =
    lowered ds drivers firsts s net names shaped different apart lawful none order
    (built ds drivers firsts s net names shaped different apart lawful none order b)
