-- Runs of a loaded net that give what is sought, and those of its design.
use Rattle.std.specs.Prelude.{◌≡◌, refl, ℕ, zero, suc, ◌+◌, ◌-◌, ◌<◌, ◌≤◌, ◌↔◌, ◌*◌, ◌==◌, Bool, true, false}
use Rattle.std.specs.Prelude.{if◌then◌else◌, List, [], ◌∷◌, ◌++◌, length, map, Some, slice_get, not}
use Rattle.std.specs.List.{AllByRecursion}
use Rattle.std.proofs.Common.{ap, sym, ◌∙◌, arith, subst}
use Rattle.fv_bits.specs.Bits.{part}
use Rattle.rv_table.specs.declared.retire.Opts.{Opts}
use Rattle.vl_size.specs.Size.{Values}
use Rattle.vl_mean.specs.Parts.{Part}
use Rattle.vl_mean.specs.Runs.{Agrees, Each, Holds, IsAssumed, IsRun}
use Rattle.wn_net.specs.declared.names.Names.{Names}
use Rattle.wn_net.specs.Value.{Given}
use Rattle.wn_net.specs.Net.{Netlist, IsNet}
use Rattle.wn_run.specs.Runs.{Choices, AreChoicesOf, IsMet, cycle_at, inputs_at, start_of}
use Rattle.wn_run.proofs.Given.{choices_run, cycles_given}
use Rattle.vl_lower_spec.specs.Maps.{given_of, map_of}
use Rattle.vl_lower_spec.specs.Evaluations.{IsLowered, maps_from, run_of}
use Rattle.vl_lower_spec.proofs.Allowed.{allowed, assumed}
use Rattle.vl_lower_spec.proofs.Evaluated.{evaluated}
use Rattle.rvfi_port.specs.declared.field.Field.{Field}
use Rattle.rvfi_port.specs.declared.field.Field.TheVariants as f
use Rattle.rvfi_port.specs.declared.port.Channel.{Channel}
use Rattle.rvfi_port.specs.declared.port.Port.{Port}
use Rattle.rvfi_port.specs.declared.port.Wants.{Wants}
use Rattle.rvfi_port.specs.Fields.{channel_fields, field_name, field_width, probed_fields, wanted_fields}
use Rattle.ck_ask.specs.Asked.{given_in}
use Rattle.ck_ask.specs.Questions.{question_cycle, question_first, sought}
use Rattle.ck_ask.specs.declared.question.Question.{Question}
use Rattle.ck_ask.specs.declared.question.Question.TheVariants as question
use Rattle.ck_gen.specs.Retirements.{probe_at, retired_from}
use Rattle.ck_gen.specs.Retirements as past
use Rattle.bm_decide.specs.Verdicts.{Gives}
use Rattle.ck_design.specs.Retirements as design
use Rattle.ck_design.specs.Retirements.{IsViolating, field_in, holds_over, probe_in, retire_in, retired_by, values_at}
use Rattle.ck_design.specs.Loaded.{FindingsAreTheDesigns, FindingsAreTheNets, IsDeclared, IsLoaded}
use Rattle.ck_design.proofs.Bound.{front, rear}
use Rattle.ck_design.specs.Findings.{FindingsOfChecksViolate, IsFound, given_over}

-- ---- lists of maps

maps_at : (net : Netlist) (names : Names) (cycle : ℕ → Given) (k n i : ℕ) → i < n
    → values_at (maps_from net names cycle k n) i ≡ map_of net names (cycle (k + i))
maps_at net names cycle k zero i less = absurd (omega (arith, less))
maps_at net names cycle k (suc n) zero less =
    let e : k ≡ k + 0 = omega arith in
    ap (λ j. map_of net names (cycle j)) e
maps_at net names cycle k (suc n) (suc i) less =
    let e : suc k + i ≡ k + suc i = omega arith in
    maps_at net names cycle (suc k) n i (omega (arith, less)) ∙ ap (λ j. map_of net names (cycle j)) e

value_there : (run : List Values) (k : ℕ) → k < length run → slice_get run k ≡ Some (values_at run k)
value_there [] k less = absurd (omega (arith, less))
value_there (v ∷ vs) zero less = refl
value_there (v ∷ vs) (suc k) less = value_there vs k (omega (arith, less))

each_at : (P : Values → Type 0) (run : List Values) (k : ℕ) → k < length run → Each P run → P (values_at run k)
each_at P [] k less h = absurd (omega (arith, less))
each_at P (v ∷ vs) zero less h = h.0
each_at P (v ∷ vs) (suc k) less h = each_at P vs k (omega (arith, less)) h.1

each_from : (P : Values → Type 0) (run : List Values) → ((k : ℕ) → k < length run → P (values_at run k)) → Each P run
each_from P [] h = tt
each_from P (v ∷ vs) h = (h 0 (omega arith), each_from P vs (λ k less. h (suc k) (omega (arith, less))))

-- ---- retirements, cycle by cycle

retired_all : (net : Netlist) (numbers : ℕ → Given) (cs : List Channel) (run : List Values) (channels first count : ℕ)
    → ((k : ℕ) → first ≤ k → k < first + count
    → retired_from net (numbers k) k 0 cs ≡ design.retired_from (values_at run k) k 0 channels)
    → past.retirements net numbers cs first count ≡ design.retirements run channels first count
retired_all net numbers cs run channels first zero same = refl
retired_all net numbers cs run channels first (suc count) same =
    let before = retired_all net numbers cs run channels first count
    (λ k le less. same k le (omega (arith, less))) in
    let here = same (first + count) (omega arith) (omega arith) in
    λ i. before i ++ here i

given_same : (net : Netlist) (numbers : ℕ → Given) (port : Port) (run : List Values) (channels : ℕ) (wants : Wants)
    (q : Question) (opts : Opts) → question_first q ≤ question_cycle q
    → ((k : ℕ) → k ≤ question_cycle q
    → retired_from net (numbers k) k 0 port.channels ≡ design.retired_from (values_at run k) k 0 channels)
    → probe_at net (numbers (question_cycle q)) port ≡ probe_in (values_at run (question_cycle q)) wants
    → given_in net numbers port q opts ≡ given_over run channels wants q opts
given_same net numbers port run channels wants q opts le same probe =
    let rs = retired_all net numbers port.channels run channels (question_first q)
    (question_cycle q - question_first q + 1) (λ k from less. same k (omega (arith, le, from, less))) in
    λ i. sought q opts (rs i) (probe i)

-- ---- maps that agree on the fields' names show the same

abbrev SameAt : Values → Values → Field → Type 0
SameAt u v field = u (field_name field) ≡ v (field_name field)

same_all : (ps : List Part) (u v : Values) (fields : List Field) → Agrees ps u v
    → AllByRecursion (IsDeclared ps) fields → AllByRecursion (SameAt u v) fields
same_all ps u v [] agree h = tt
same_all ps u v (field ∷ fields) agree h = (h.0 u v agree, same_all ps u v fields agree h.1)

module _ (u v : Values) (o : AllByRecursion (SameAt u v) channel_fields) where
  field_same : (channel : ℕ) (field : Field) → SameAt u v field → field_in u channel field ≡ field_in v channel field
  field_same channel field e = ap (part (channel * field_width field) (field_width field)) e

  retire_same : (channel : ℕ) → retire_in u channel ≡ retire_in v channel
  retire_same channel = λ i. record {
    order = field_same channel f.Order o.1.0 i;
    insn = field_same channel f.Insn o.1.1.0 i;
    trap = field_same channel f.Trap o.1.1.1.0 i == 1;
    halt = field_same channel f.Halt o.1.1.1.1.0 i == 1;
    intr = field_same channel f.Intr o.1.1.1.1.1.0 i == 1;
    rs1_addr = field_same channel f.Rs1Addr o.1.1.1.1.1.1.0 i;
    rs2_addr = field_same channel f.Rs2Addr o.1.1.1.1.1.1.1.0 i;
    rs1_rdata = field_same channel f.Rs1Rdata o.1.1.1.1.1.1.1.1.0 i;
    rs2_rdata = field_same channel f.Rs2Rdata o.1.1.1.1.1.1.1.1.1.0 i;
    rd_addr = field_same channel f.RdAddr o.1.1.1.1.1.1.1.1.1.1.0 i;
    rd_wdata = field_same channel f.RdWdata o.1.1.1.1.1.1.1.1.1.1.1.0 i;
    pc_rdata = field_same channel f.PcRdata o.1.1.1.1.1.1.1.1.1.1.1.1.0 i;
    pc_wdata = field_same channel f.PcWdata o.1.1.1.1.1.1.1.1.1.1.1.1.1.0 i;
    mem_addr = field_same channel f.MemAddr o.1.1.1.1.1.1.1.1.1.1.1.1.1.1.0 i;
    mem_rmask = field_same channel f.MemRmask o.1.1.1.1.1.1.1.1.1.1.1.1.1.1.1.0 i;
    mem_wmask = field_same channel f.MemWmask o.1.1.1.1.1.1.1.1.1.1.1.1.1.1.1.1.0 i;
    mem_rdata = field_same channel f.MemRdata o.1.1.1.1.1.1.1.1.1.1.1.1.1.1.1.1.1.0 i;
    mem_wdata = field_same channel f.MemWdata o.1.1.1.1.1.1.1.1.1.1.1.1.1.1.1.1.1.1.0 i;
  }

  retired_same : (cycle channel : ℕ) → retired_by u cycle channel ≡ retired_by v cycle channel
  retired_same cycle channel = λ i.
      if field_same channel f.Valid o.0 i == 1
      then record { cycle = cycle; channel = channel; retire = retire_same channel i } ∷ [] else []

  cycle_same : (cycle channel count : ℕ)
      → design.retired_from u cycle channel count ≡ design.retired_from v cycle channel count
  cycle_same cycle channel zero = refl
  cycle_same cycle channel (suc count) = λ i.
      retired_same cycle channel i ++ cycle_same cycle (channel + 1) count i

module _ (u v : Values) where
  imem_addr_same : (wanted : Bool)
      → AllByRecursion (SameAt u v) (if wanted then f.ImemAddr ∷ f.ImemData ∷ [] else [])
      → (if wanted then u (field_name f.ImemAddr) else 0) ≡ (if wanted then v (field_name f.ImemAddr) else 0)
  imem_addr_same true o = o.0
  imem_addr_same false o = refl

  imem_data_same : (wanted : Bool)
      → AllByRecursion (SameAt u v) (if wanted then f.ImemAddr ∷ f.ImemData ∷ [] else [])
      → (if wanted then u (field_name f.ImemData) else 0) ≡ (if wanted then v (field_name f.ImemData) else 0)
  imem_data_same true o = o.1.0
  imem_data_same false o = refl

  dmem_addr_same : (wanted : Bool) → AllByRecursion (SameAt u v) (if wanted then f.DmemAddr ∷ [] else [])
      → (if wanted then u (field_name f.DmemAddr) else 0) ≡ (if wanted then v (field_name f.DmemAddr) else 0)
  dmem_addr_same true o = o.0
  dmem_addr_same false o = refl

  probe_same : (wants : Wants) → AllByRecursion (SameAt u v) (probed_fields wants)
      → probe_in u wants ≡ probe_in v wants
  probe_same wants o =
      let imem = front (SameAt u v) (if wants.imem then f.ImemAddr ∷ f.ImemData ∷ [] else []) _ o in
      let dmem = rear (SameAt u v) (if wants.imem then f.ImemAddr ∷ f.ImemData ∷ [] else []) _ o in
      λ i. record {
        imem_addr = imem_addr_same wants.imem imem i;
        imem_data = imem_data_same wants.imem imem i;
        dmem_addr = dmem_addr_same wants.dmem dmem i;
      }

-- ---- a run of the design and the run of the net that it is

-- in each cycle the net has the numbers of the run's map
abbrev pub IsRunOf : Netlist → Names → Choices → ℕ → List Values → Type 0
IsRunOf net names ch d run =
    (k : ℕ) → k ≤ d → cycle_at net (inputs_at net ch) (start_of net ch) k ≡ given_of names (values_at run k)

pub same_found : (ps : List Part) (net : Netlist) (names : Names) (channels : ℕ) (wants : Wants) (port : Port)
    (q : Question) (opts : Opts) (ch : Choices) (run : List Values)
    → IsLoaded ps net names channels wants port → IsNet net → AreChoicesOf net ch → question_first q ≤ question_cycle q
    → IsRun ps (question_cycle q) run → IsRunOf net names ch (question_cycle q) run
    → Gives net port q opts ch
    ↔ (IsAssumed ps run × (given_over run channels wants q opts ≡ true))
same_found ps net names channels wants port q opts ch run loaded whole of le is_run is =
    let h = loaded.lowered in
    let K = question_cycle q in
    let cycle : ℕ → Given = cycle_at net (inputs_at net ch) (start_of net ch) in
    let given = λ (k : ℕ). cycles_given net (inputs_at net ch) (start_of net ch) k whole (choices_run net ch whole of) in
    let v : ℕ → Values = values_at run in
    let within = λ (k : ℕ) (less : k ≤ K). still_there k K (length run) is_run.cycles less in
    let holds = λ (k : ℕ) (less : k ≤ K). each_at (Holds ps) run k (within k less) is_run.holds in
    let agree = λ (k : ℕ) (less : k ≤ K). subst (λ (g : Given). Agrees ps (map_of net names g) (v k))
    (sym (is k less)) (h.whole (v k) (holds k less)) in
    let fields = λ (k : ℕ) (less : k ≤ K).
    same_all ps (map_of net names (cycle k)) (v k) (wanted_fields wants) (agree k less) loaded.declared in
    let same = λ (k : ℕ) (less : k ≤ K).
    (loaded.shows (cycle k) (given k)).retired k
    ∙ cycle_same (map_of net names (cycle k)) (v k)
    (front (SameAt (map_of net names (cycle k)) (v k)) channel_fields (probed_fields wants) (fields k less))
    k 0 channels in
    let last : K ≤ K = omega arith in
    let probe = (loaded.shows (cycle K) (given K)).probe
    ∙ probe_same (map_of net names (cycle K)) (v K) wants
    (rear (SameAt (map_of net names (cycle K)) (v K)) channel_fields (probed_fields wants) (fields K last)) in
    let met = assumed ps net names h run is_run.holds in
    let same_given = given_same net cycle port run channels wants q opts le same probe in
    let to : Gives net port q opts ch → IsAssumed ps run × (given_over run channels wants q opts ≡ true)
    = λ x. (
      met.1 (each_from (λ u. IsMet net (given_of names u)) run
          (λ k less. subst (λ (g : Given). IsMet net g) (is k (still_within k K (length run) is_run.cycles less))
          (x.0 k (still_within k K (length run) is_run.cycles less)))),
      sym same_given ∙ x.1,
    ) in
    let from : IsAssumed ps run × (given_over run channels wants q opts ≡ true) → Gives net port q opts ch
    = λ x. (
      (λ (k : ℕ) (less : k ≤ K). subst (λ (g : Given). IsMet net g) (sym (is k less))
          (each_at (λ u. IsMet net (given_of names u)) run k (within k less) (met.0 x.0))),
      same_given ∙ x.1,
    ) in
    (to, from)
  where
    still_there : (k d n : ℕ) → n ≡ d + 1 → k ≤ d → k < n
    still_there k d n e le = omega (arith, e, le)

    still_within : (k d n : ℕ) → n ≡ d + 1 → k < n → k ≤ d
    still_within k d n e less = omega (arith, e, less)

-- in the last cycle the map of the net's numbers has the fields that the run has
pub same_fields : (ps : List Part) (net : Netlist) (names : Names) (channels : ℕ) (wants : Wants) (port : Port)
    (ch : Choices) (d : ℕ) (run : List Values) → IsLoaded ps net names channels wants port → IsNet net
    → AreChoicesOf net ch → IsRun ps d run → IsRunOf net names ch d run → (channel : ℕ)
    → map (field_in (map_of net names (cycle_at net (inputs_at net ch) (start_of net ch) d)) channel) channel_fields
    ≡ map (field_in (values_at run d) channel) channel_fields
same_fields ps net names channels wants port ch d run loaded whole of is_run is channel =
    let g = cycle_at net (inputs_at net ch) (start_of net ch) d in
    let v = values_at run d in
    let last : d < length run = omega (arith, is_run.cycles) in
    let holds = each_at (Holds ps) run d last is_run.holds in
    let agree = subst (λ (h : Given). Agrees ps (map_of net names h) v) (sym (is d (omega arith)))
    (loaded.lowered.whole v holds) in
    let all = same_all ps (map_of net names g) v (wanted_fields wants) agree loaded.declared in
    listed (map_of net names g) v channel channel_fields
    (front (SameAt (map_of net names g) v) channel_fields (probed_fields wants) all)
  where
    listed : (u w : Values) (channel : ℕ) (fields : List Field) → AllByRecursion (SameAt u w) fields
        → map (field_in u channel) fields ≡ map (field_in w channel) fields
    listed u w channel [] h = refl
    listed u w channel (field ∷ fields) h = λ i.
        part (channel * field_width field) (field_width field) (h.0 i) ∷ listed u w channel fields h.1 i

-- the run of choices is a run of the design
pub run_of_choices : (ps : List Part) (net : Netlist) (names : Names) (ch : Choices) (d : ℕ) → IsLowered ps net names
    → IsNet net → AreChoicesOf net ch → IsRunOf net names ch d (run_of net names ch d)
run_of_choices ps net names ch d h whole of k less =
    let cycle : ℕ → Given = cycle_at net (inputs_at net ch) (start_of net ch) in
    let given = cycles_given net (inputs_at net ch) (start_of net ch) k whole (choices_run net ch whole of) in
    let e : 0 + k ≡ k = omega arith in
    sym (h.back (cycle k) given)
    ∙ ap (given_of names)
    (sym (maps_at net names cycle 0 (suc d) k (omega (arith, less)) ∙ ap (λ j. map_of net names (cycle j)) e))

pub designs : FindingsAreTheDesigns
designs ps net names channels wants port q opts ch loaded whole of le gives =
    let K = question_cycle q in
    let run = run_of net names ch K in
    let is_run = allowed ps net names loaded.lowered whole ch of K in
    let both = same_found ps net names channels wants port q opts ch run loaded whole of le is_run
    (run_of_choices ps net names ch K loaded.lowered whole of) in
    let x = both.0 gives in
    record { is_run = is_run; assumed = x.0; given = x.1 }

-- and a run of the design that of its choices
pub choices_of_run : (ps : List Part) (net : Netlist) (names : Names) (d : ℕ) (run : List Values)
    → IsLowered ps net names → IsNet net → IsRun ps d run
    → (ch : Choices) × AreChoicesOf net ch × IsRunOf net names ch d run
choices_of_run ps net names d run h whole is_run =
    let e = evaluated ps net names h whole d run is_run in (
      e.choices,
      e.of,
      λ k less. e.same k (values_at run k) (value_there run k (omega (arith, is_run.cycles, less))),
    )

pub nets : FindingsAreTheNets
nets ps net names channels wants port q opts run loaded whole le x =
    let e = choices_of_run ps net names (question_cycle q) run loaded.lowered whole x.is_run in
    let both = same_found ps net names channels wants port q opts e.0 run loaded whole e.1 le x.is_run e.2 in
    record { choices = e.0; of = e.1; gives = both.1 (x.assumed, x.given) }

-- ---- what is found of a check

turned_true : (b : Bool) → not b ≡ true → b ≡ false
turned_true true e = cc
turned_true false e = refl

turned_false : (b : Bool) → b ≡ false → not b ≡ true
turned_false true e = cc
turned_false false e = refl

pub found_violates : FindingsOfChecksViolate
found_violates ps channels wants check opts run =
    let holds : Bool = holds_over run channels wants check opts in
    let to : IsFound ps channels wants (question.Check check) opts run
    → IsViolating ps channels wants check opts run
    = λ x. record { is_run = x.is_run; assumed = x.assumed; fails = turned_true holds x.given } in
    let from : IsViolating ps channels wants check opts run
    → IsFound ps channels wants (question.Check check) opts run
    = λ x. record { is_run = x.is_run; assumed = x.assumed; given = turned_false holds x.fails } in
    (to, from)
