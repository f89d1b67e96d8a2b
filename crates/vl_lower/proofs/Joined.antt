-- The phases that lowering goes through make the design's net.
use Rattle.std.specs.Prelude.{◌≡◌, refl, ℕ, ◌+◌, List, [], ◌∷◌, ◌++◌, map, All}
use Rattle.std.proofs.Common.{ap, sym, ◌∙◌, subst}
use Rattle.vl_size.specs.declared.decl.Decl.{Decl}
use Rattle.vl_size.specs.Size.{Values}
use Rattle.vl_size.specs.Table.{AreApart, AreDifferent, IsShaped}
use Rattle.vl_mean.specs.declared.driver.Driver.{Driver}
use Rattle.vl_mean.specs.declared.driver.Start.{Start}
use Rattle.vl_mean.specs.FlatLaw.{IsLawful}
use Rattle.vl_mean.specs.FlatParts.{parts_of}
use Rattle.vl_mean.specs.Parts.{Part}
use Rattle.vl_flow_spec.specs.Refusals.{HasNoRefusal}
use Rattle.vl_flow_spec.specs.Sequence.{IsSequence}
use Rattle.vl_lower_spec.specs.Evaluations.{IsLowered}
use Rattle.wn_net.specs.declared.names.NetName.{NetName}
use Rattle.wn_net.specs.declared.names.Names.{Names}
use Rattle.wn_net.specs.declared.parts.Mem.{Mem}
use Rattle.wn_net.specs.declared.parts.Reg.{Reg}
use Rattle.wn_net.specs.Changes.{Keeps}
use Rattle.wn_net.specs.Given.{IsGiven}
use Rattle.wn_net.specs.Net.{IsNet, Netlist}
use Rattle.wn_net.specs.Value.{Given}
use Rattle.wn_net.proofs.Laws.{keeps_on}
use Rattle.vl_lower_assign.specs.declared.track.Track.{Track}
use Rattle.vl_lower_assign.specs.Frames.{Stand}
use Rattle.vl_lower_cell_laws.specs.Cycles.{SettlesAll, TicksAll}
use Rattle.vl_lower_cell_laws.specs.declared.keep.Keep.{Keep}
use Rattle.vl_lower_cell_laws.specs.Entries.{all_entries}
use Rattle.vl_lower_cell_laws.specs.Listing.{HasSources, Keeping}
use Rattle.vl_lower_state.specs.Nexts.{ShowBits, with_nexts}
use Rattle.vl_lower_state.specs.Stores.{AreStored}
use Rattle.vl_lower_state.proofs.StoresTogether.{is_stored_kept}
use Rattle.vl_lower_state.proofs.Whole.{registers_next, words_next}
use Rattle.vl_lower_state.specs.Phases.{BeginCycle, ClosesCycle}
use Rattle.vl_lower_state.proofs.PhasesTogether as together
use Rattle.vl_lower_state.proofs.Begun as begun
use Rattle.vl_lower.specs.declared.sources.Sources.{Sources}
use Rattle.vl_lower.specs.Design.{AreKeepsOf, Declares, keeping, names_with}
use Rattle.vl_lower_cell_laws.specs.Few.{AreFew}
use Rattle.vl_lower_cell_laws.proofs.Few.{are_few}
use Rattle.vl_lower.specs.Closing.{Closes, over}
use Rattle.vl_lower.specs.Listed.{entries_by}
use Rattle.vl_lower.proofs.Those.{those}

-- with next nodes registers have the widths and the starts that they had
kept_regs : {B : Type 0} (f : Reg → B) → ((r : Reg) (n : ℕ) → f (record r { next = n }) ≡ f r) → (ns : List ℕ)
    → (rs : List Reg) → map f (with_nexts ns rs) ≡ map f rs
kept_regs f same [] rs = refl
kept_regs f same (n ∷ ns) [] = refl
kept_regs f same (n ∷ ns) (r ∷ rs) = (λ i. same r n i ∷ kept_regs f same ns rs i)

-- what is stored stays as the net grows
stored_kept : (old new : Netlist) → Keeps old new → (cells : List ℕ) (tracks : List Track) (number : ℕ) (ms : List Mem)
    (fs : List ℕ) → AreStored old cells tracks number ms fs → AreStored new cells tracks number ms fs
stored_kept old new keeps cells tracks number [] [] h = tt
stored_kept old new keeps cells tracks number [] (f ∷ fs) h = h
stored_kept old new keeps cells tracks number (m ∷ ms) [] h = h
stored_kept old new keeps cells tracks number (m ∷ ms) (f ∷ fs) h = (
  is_stored_kept old new keeps cells tracks number m f h.0,
  stored_kept old new keeps cells tracks (number + 1) ms fs h.1,
)

module _ (ds : List Decl) (drivers : List Driver) (firsts : List Start) (sequence : List ℕ) (keeps : List Keep)
    (x : Sources) (settled ticked closed middle net : Netlist) (list : List NetName)
    (s_now s_next t_now t_next on_the_way at_the_edge : List ℕ) (first_tracks s_tracks t_tracks : List Track) (shaped : All IsShaped ds)
    (different : AreDifferent ds) (apart : AreApart ds) (lawful : IsLawful ds drivers firsts)
    (none : HasNoRefusal ds drivers) (order : IsSequence ds drivers sequence)
    (kept : AreKeepsOf (parts_of ds drivers firsts) ds keeps) (has : Declares (parts_of ds drivers firsts) ds keeps x)
    (settles : SettlesAll ds x.net settled (over x.cells x.cells first_tracks) (over s_now s_next s_tracks) on_the_way drivers sequence)
    (ticks : TicksAll ds settled ticked (over s_now s_next s_tracks) (over t_now t_next t_tracks) at_the_edge drivers)
    (whole : IsNet ticked) (closes : Closes ticked closed t_next t_tracks x.regs x.register_cells x.memory_cells)
    (first : middle ≡ record closed { assumes = closed.assumes ++ on_the_way }) (first_keeps : Keeps closed middle)
    (last : net ≡ record middle { assumes = middle.assumes ++ at_the_edge }) (last_keeps : Keeps middle net)
    (is : IsNet net) (listed : list ≡ entries_by x.memory_cells ds s_now 0 0) where
  abbrev ps : List Part
  ps = parts_of ds drivers firsts

  abbrev keep : Keeping
  keep = keeping keeps

  abbrev names : Names
  names = names_with list x

  entries : names.list ≡ all_entries ps ds s_now 0 0
  entries = listed ∙ those ds ps x.memory_cells s_now lawful.kept has.memory_cells

  -- ---- the closed net

  regs : net.regs ≡ with_nexts closes.nexts ticked.regs
  regs = ap (λ n. n.regs) last ∙ ap (λ n. n.regs) first ∙ closes.regs

  mems : net.mems ≡ closed.mems
  mems = ap (λ n. n.mems) last ∙ ap (λ n. n.mems) first

  inputs : net.inputs ≡ x.net.inputs
  inputs =
      ap (λ n. n.inputs) last ∙ ap (λ n. n.inputs) first ∙ closes.inputs ∙ ticks.adds.inputs ∙ settles.adds.inputs

  old_regs : ticked.regs ≡ x.net.regs
  old_regs = ticks.adds.regs ∙ settles.adds.regs

  old_mems : ticked.mems ≡ x.net.mems
  old_mems = ticks.adds.mems ∙ settles.adds.mems

  from_closed : Keeps closed net
  from_closed = keeps_on closed middle net first_keeps last_keeps

  from_mid : Keeps closes.mid net
  from_mid = keeps_on closes.mid closed net closes.keeps from_closed

  from_ticked : Keeps ticked net
  from_ticked = keeps_on ticked closes.mid net closes.adds.keeps from_mid

  sources : HasSources ps keep ds net names
  sources =
      let begun = has.sources list in
      record {
        inputs = inputs ∙ begun.inputs;
        input_spots = begun.input_spots;
        reg_widths =
            ap (map (λ r. r.width)) regs ∙ kept_regs (λ r. r.width) (λ r n. refl) closes.nexts ticked.regs
            ∙ ap (map (λ r. r.width)) old_regs ∙ begun.reg_widths;
        reg_starts =
            ap (map (λ r. r.init)) regs ∙ kept_regs (λ r. r.init) (λ r n. refl) closes.nexts ticked.regs
            ∙ ap (map (λ r. r.init)) old_regs ∙ begun.reg_starts;
        reg_spots = begun.reg_spots;
        mem_widths =
            ap (map (λ m. m.width)) mems ∙ closes.mem_widths ∙ ap (map (λ m. m.width)) old_mems ∙ begun.mem_widths;
        mem_words =
            ap (map (λ m. m.words)) mems ∙ closes.mem_words ∙ ap (map (λ m. m.words)) old_mems ∙ begun.mem_words;
        mem_starts =
            ap (map (λ m. m.init)) mems ∙ closes.mem_starts ∙ ap (map (λ m. m.init)) old_mems ∙ begun.mem_starts;
        mem_names = begun.mem_names;
      }

  begins : (g : Given) → IsGiven net g → IsGiven x.net g × BeginCycle ds ps x.net names (over x.cells x.cells first_tracks) g
  begins =
      begun.begin ds ps keep s_now x.net net names (over x.cells x.cells first_tracks) shaped different apart lawful.kept kept.are
      entries (has.sources list) sources has.cells refl has.numbers

  closing : (g : Given) (next : Values) → IsGiven net g → Stand ticked g ds t_next next
      → ClosesCycle ds net names (over t_now t_next t_tracks) g next
  closing g next given stand = record {
    regs =
        registers_next ds ps keep s_now ticked closes.mid net names t_next closes.nexts ticked.regs g next entries sources
        (subst (λ cs. ShowBits ticked closes.mid t_next x.regs cs closes.nexts) has.register_cells closes.shows) regs
        from_mid (ticks.adds.keeps.given g (settles.adds.keeps.given g (begins g given).0)) stand;
    mems =
        words_next ds ps keep s_now ticked net names t_next t_tracks g next entries sources ticks.frame.tracks
        ticks.frame.next from_ticked (ap (map (λ (m : Mem). m.width)) mems ∙ closes.mem_widths)
        (subst (λ fs. AreStored net t_next t_tracks 0 net.mems fs) has.memory_cells
        (subst (λ ms. AreStored net t_next t_tracks 0 ms x.memory_cells) (sym mems)
        (stored_kept closed net from_closed t_next t_tracks 0 closed.mems x.memory_cells closes.stored)))
        is (ticks.adds.keeps.given g (settles.adds.keeps.given g (begins g given).0)) given stand;
  }

  assumes : net.assumes ≡ on_the_way ++ at_the_edge
  assumes =
      ap (λ n. n.assumes) last
      ∙ ap (λ ids. ids ++ at_the_edge) (ap (λ n. n.assumes) first
      ∙ ap (λ ids. ids ++ on_the_way)
      (closes.assumes ∙ ticks.adds.assumes ∙ settles.adds.assumes ∙ has.assumes))

  lowered : IsLowered ps net names
  lowered =
      together.lower ds drivers firsts sequence net names shaped different apart lawful none order (record {
        begun = x.net;
        settled = settled;
        ticked = ticked;
        first_cells = over x.cells x.cells first_tracks;
        settled_cells = over s_now s_next s_tracks;
        ticked_cells = over t_now t_next t_tracks;
        on_the_way = on_the_way;
        at_the_edge = at_the_edge;
        keep = keep;
        keeps_are = kept.are;
        sources = sources;
        begins = begins;
        settles = settles;
        ticks = ticks;
        closes = closing;
        whole = whole;
        keeps = from_ticked;
        assumes = assumes;
        entries = entries;
      })

  -- the net is the design's, and has few inputs, registers and words
  pub both : IsLowered ps net names × AreFew net
  both = (lowered, are_few ds ps keep net names shaped lawful.kept lawful.few_names sources)
