-- The monitor of a check of one cycle tells of the check's property in the map of each evaluation.
use Rattle.std.specs.Prelude.{◌≡◌, refl, ℕ, zero, suc, ◌+◌, ◌*◌, ◌==◌, Bool, true, false, not, if◌then◌else◌}
use Rattle.std.specs.Prelude.{List, [], ◌∷◌, ◌++◌, Option, Some, None}
use Rattle.std.specs.List.{AllByRecursion}
use Rattle.std.proofs.Common.{ap, sym, ◌∙◌}
use Rattle.fv_bits.specs.Bits.{bit, part}
use Rattle.rv_table.specs.declared.retire.Opts.{Opts}
use Rattle.vl_size.specs.Size.{Values}
use Rattle.vl_mean.specs.Parts.{Part}
use Rattle.vl_mean.specs.Runs.{Agrees}
use Rattle.wn_net.specs.Value.{Given}
use Rattle.wn_net.specs.Net.{Netlist}
use Rattle.wn_net.specs.Changes.{AddsRegs}
use Rattle.wn_net.proofs.Laws.{adds_regs}
use Rattle.rvfi_port.specs.declared.field.Field.{Field}
use Rattle.rvfi_port.specs.declared.field.Field.TheVariants as f
use Rattle.rvfi_port.specs.declared.port.Channel.{Channel}
use Rattle.rvfi_port.specs.declared.port.Port.{Port}
use Rattle.rvfi_port.specs.declared.port.Wants.{Wants}
use Rattle.rvfi_port.specs.Fields.{channel_fields, field_name, field_width, probed_fields, wanted_fields}
use Rattle.rvfi_port.specs.Ports.{AreChannelNodes, AreImemNodes, ArePortNodes, IsDmemNode}
use Rattle.rvfi_port.proofs.AddedRegs.{retire_on}
use Rattle.ck_cfg.specs.declared.check.Check.{Check}
use Rattle.ck_spec.specs.Properties.{property}
use Rattle.ck_gen.specs.Retirements.{dmem_addr_at, imem_addr_at, imem_data_at, probe_at, retired_from}
use Rattle.vl_lower_spec.specs.Maps.{map_of}
use Rattle.ck_design.specs.Loaded.{IsDeclared}
use Rattle.ck_design.specs.Retirements as design
use Rattle.ck_design.specs.Retirements.{field_in, probe_in, retire_in, retired_by}
use Rattle.ck_design.proofs.Bound.{front, rear}
use Rattle.ck_design.proofs.Carried.{given_back, lowered_on, maps_same}
use Rattle.ck_induct.specs.OneCycle.{holds_in_map, in_cycle}
use Rattle.ck_induct.specs.Laws.{MonitorsTellLack}
use Rattle.ck_induct.proofs.OneCycle.{any_start}

-- ---- maps that agree on the fields' names show the same

abbrev SameAt : Values → Values → Field → Type 0
SameAt u v field = u (field_name field) ≡ v (field_name field)

same_all : (ps : List Part) (u v : Values) (fields : List Field) → Agrees ps u v
    → AllByRecursion (IsDeclared ps) fields → AllByRecursion (SameAt u v) fields
same_all ps u v [] agree h = tt
same_all ps u v (field ∷ fields) agree h = (h.0 u v agree, same_all ps u v fields agree h.1)

module _ (u v : Values) (o : AllByRecursion (SameAt u v) channel_fields) where
  field_same : (channel : ℕ) (field : Field) → SameAt u v field → field_in u channel field ≡ field_in v channel field
  field_same channel field e = ap (part (channel * field_width field) (field_width field)) e

  retire_same : (channel : ℕ) → retire_in u channel ≡ retire_in v channel
  retire_same channel = λ i. record {
    order = field_same channel f.Order o.1.0 i;
    insn = field_same channel f.Insn o.1.1.0 i;
    trap = field_same channel f.Trap o.1.1.1.0 i == 1;
    halt = field_same channel f.Halt o.1.1.1.1.0 i == 1;
    intr = field_same channel f.Intr o.1.1.1.1.1.0 i == 1;
    rs1_addr = field_same channel f.Rs1Addr o.1.1.1.1.1.1.0 i;
    rs2_addr = field_same channel f.Rs2Addr o.1.1.1.1.1.1.1.0 i;
    rs1_rdata = field_same channel f.Rs1Rdata o.1.1.1.1.1.1.1.1.0 i;
    rs2_rdata = field_same channel f.Rs2Rdata o.1.1.1.1.1.1.1.1.1.0 i;
    rd_addr = field_same channel f.RdAddr o.1.1.1.1.1.1.1.1.1.1.0 i;
    rd_wdata = field_same channel f.RdWdata o.1.1.1.1.1.1.1.1.1.1.1.0 i;
    pc_rdata = field_same channel f.PcRdata o.1.1.1.1.1.1.1.1.1.1.1.1.0 i;
    pc_wdata = field_same channel f.PcWdata o.1.1.1.1.1.1.1.1.1.1.1.1.1.0 i;
    mem_addr = field_same channel f.MemAddr o.1.1.1.1.1.1.1.1.1.1.1.1.1.1.0 i;
    mem_rmask = field_same channel f.MemRmask o.1.1.1.1.1.1.1.1.1.1.1.1.1.1.1.0 i;
    mem_wmask = field_same channel f.MemWmask o.1.1.1.1.1.1.1.1.1.1.1.1.1.1.1.1.0 i;
    mem_rdata = field_same channel f.MemRdata o.1.1.1.1.1.1.1.1.1.1.1.1.1.1.1.1.1.0 i;
    mem_wdata = field_same channel f.MemWdata o.1.1.1.1.1.1.1.1.1.1.1.1.1.1.1.1.1.1.0 i;
  }

  retired_same : (cycle channel : ℕ) → retired_by u cycle channel ≡ retired_by v cycle channel
  retired_same cycle channel = λ i.
      if field_same channel f.Valid o.0 i == 1
      then record { cycle = cycle; channel = channel; retire = retire_same channel i } ∷ [] else []

  cycle_same : (cycle channel count : ℕ)
      → design.retired_from u cycle channel count ≡ design.retired_from v cycle channel count
  cycle_same cycle channel zero = refl
  cycle_same cycle channel (suc count) = λ i.
      retired_same cycle channel i ++ cycle_same cycle (channel + 1) count i

module _ (u v : Values) where
  imem_addr_same : (wanted : Bool)
      → AllByRecursion (SameAt u v) (if wanted then f.ImemAddr ∷ f.ImemData ∷ [] else [])
      → (if wanted then u (field_name f.ImemAddr) else 0) ≡ (if wanted then v (field_name f.ImemAddr) else 0)
  imem_addr_same true o = o.0
  imem_addr_same false o = refl

  imem_data_same : (wanted : Bool)
      → AllByRecursion (SameAt u v) (if wanted then f.ImemAddr ∷ f.ImemData ∷ [] else [])
      → (if wanted then u (field_name f.ImemData) else 0) ≡ (if wanted then v (field_name f.ImemData) else 0)
  imem_data_same true o = o.1.0
  imem_data_same false o = refl

  dmem_addr_same : (wanted : Bool) → AllByRecursion (SameAt u v) (if wanted then f.DmemAddr ∷ [] else [])
      → (if wanted then u (field_name f.DmemAddr) else 0) ≡ (if wanted then v (field_name f.DmemAddr) else 0)
  dmem_addr_same true o = o.0
  dmem_addr_same false o = refl

  probe_same : (wants : Wants) → AllByRecursion (SameAt u v) (probed_fields wants)
      → probe_in u wants ≡ probe_in v wants
  probe_same wants o =
      let imem = front (SameAt u v) (if wants.imem then f.ImemAddr ∷ f.ImemData ∷ [] else []) _ o in
      let dmem = rear (SameAt u v) (if wants.imem then f.ImemAddr ∷ f.ImemData ∷ [] else []) _ o in
      λ i. record {
        imem_addr = imem_addr_same wants.imem imem i;
        imem_data = imem_data_same wants.imem imem i;
        dmem_addr = dmem_addr_same wants.dmem dmem i;
      }

-- so they have a property alike
same_property : (ps : List Part) (channels : ℕ) (wants : Wants) (check : Check) (opts : Opts) (u v : Values)
    → AllByRecursion (IsDeclared ps) (wanted_fields wants) → Agrees ps u v
    → holds_in_map channels wants check opts u ≡ holds_in_map channels wants check opts v
same_property ps channels wants check opts u v declared agree =
    let all = same_all ps u v (wanted_fields wants) agree declared in
    let rs = cycle_same u v (front (SameAt u v) channel_fields (probed_fields wants) all) 0 0 channels in
    let probe = probe_same u v wants (rear (SameAt u v) channel_fields (probed_fields wants) all) in
    λ i. property (in_cycle check 0) (rs i) (probe i) opts

-- ---- a net with more nodes shows the same

module _ (old new : Netlist) (g : Given) (adds : AddsRegs old new) where
  retired_on : (cycle channel : ℕ) (cs : List Channel) → AllByRecursion (AreChannelNodes old) cs
      → retired_from new g cycle channel cs ≡ retired_from old g cycle channel cs
  retired_on cycle channel [] own = refl
  retired_on cycle channel (c ∷ cs) own = λ i.
      (if adds.values g c.valid own.0.valid.0 i == 1
      then record { cycle = cycle; channel = channel; retire = retire_on old new g c adds own.0 i } ∷ [] else [])
      ++ retired_on cycle (channel + 1) cs own.1 i

  imem_addr_on : (p : Option (ℕ × ℕ)) → AreImemNodes old p → imem_addr_at new g p ≡ imem_addr_at old g p
  imem_addr_on None own = refl
  imem_addr_on (Some p) own = adds.values g p.0 own.0.0

  imem_data_on : (p : Option (ℕ × ℕ)) → AreImemNodes old p → imem_data_at new g p ≡ imem_data_at old g p
  imem_data_on None own = refl
  imem_data_on (Some p) own = adds.values g p.1 own.1.0

  dmem_addr_on : (p : Option ℕ) → IsDmemNode old p → dmem_addr_at new g p ≡ dmem_addr_at old g p
  dmem_addr_on None own = refl
  dmem_addr_on (Some id) own = adds.values g id own.0

  probe_on : (port : Port) → ArePortNodes old port → probe_at new g port ≡ probe_at old g port
  probe_on port own = λ i. record {
    imem_addr = imem_addr_on port.imem own.imem i;
    imem_data = imem_data_on port.imem own.imem i;
    dmem_addr = dmem_addr_on port.dmem own.dmem i;
  }

pub monitors_tell : MonitorsTellLack
monitors_tell ps old new names channels wants port check opts id loaded whole grown adds one node is =
    let more = adds_regs old new adds in
    record {
      lowered = lowered_on ps old new names loaded.lowered whole adds;
      node = node;
      alike = λ u v agree. same_property ps channels wants check opts u v loaded.declared agree;
      tells = λ g of.
          let was = given_back old new whole adds g of in
          let shows = loaded.shows g was in
          let rs : retired_from new g 0 0 port.channels ≡ design.retired_from (map_of old names g) 0 0 channels =
          retired_on old new g more 0 0 port.channels loaded.nodes.channels ∙ shows.retired 0 in
          let probe : probe_at new g port ≡ probe_in (map_of old names g) wants =
          probe_on old new g more port loaded.nodes ∙ shows.probe in
          let start = any_start check (retired_from new g 0 0 port.channels) (probe_at new g port) opts check.kind one in
          is g 0 of
          ∙ ap (λ b. bit (not b)) start
          ∙ (λ i. bit (not (property (in_cycle check 0) (rs i) (probe i) opts)))
          ∙ ap (λ (m : Values). bit (not (holds_in_map channels wants check opts m)))
          (sym (maps_same old new whole adds names g loaded.lowered.named));
    }
