-- A bound port shows what the map of a cycle shows.
use Rattle.std.specs.Prelude.{◌≡◌, refl, ℕ, ◌+◌, ◌*◌, ◌==◌, Bool, true, false, if◌then◌else◌}
use Rattle.std.specs.Prelude.{List, [], ◌∷◌, ◌++◌, length, map, Option, Some, None, is_none}
use Rattle.std.specs.List.{AllByRecursion}
use Rattle.std.specs.Option.{option_or}
use Rattle.std.proofs.Common.{ap, sym, ◌∙◌, true≢false}
use Rattle.fv_bits.specs.Bits.{part}
use Rattle.vl_size.specs.Size.{Values}
use Rattle.vl_mean.specs.Parts.{Part}
use Rattle.wn_net.specs.declared.names.Names.{Names}
use Rattle.wn_net.specs.declared.names.NetName.{NetName}
use Rattle.wn_net.specs.Value.{Given}
use Rattle.wn_net.specs.Net.{Netlist, IsNet, value_at}
use Rattle.wn_net.specs.Given.{IsGiven}
use Rattle.wn_net.specs.Changes.{AddsNodes, Shows}
use Rattle.vl_lower_spec.specs.Evaluations.{IsLowered}
use Rattle.vl_lower_spec.specs.Maps.{map_of}
use Rattle.rvfi_port.specs.declared.field.Field.{Field}
use Rattle.rvfi_port.specs.declared.field.Field.TheVariants as f
use Rattle.rvfi_port.specs.declared.port.Channel.{Channel}
use Rattle.rvfi_port.specs.declared.port.Port.{Port}
use Rattle.rvfi_port.specs.declared.port.Wants.{Wants}
use Rattle.rvfi_port.specs.Channels.{AreChannels, IsChannel, IsDmem, IsImem, IsPortOf, IsProbe, field_value}
use Rattle.rvfi_port.specs.Channels.{nodes_of, retire_at}
use Rattle.rvfi_port.specs.Fields.{channel_fields, field_name, field_width, probed_fields, wanted_fields}
use Rattle.rvfi_port.specs.Outputs.{first_refused, judged, output_of, output_value}
use Rattle.rvfi_port.proofs.PortNodes.{port_nodes}
use Rattle.ck_gen.specs.Retirements.{dmem_addr_at, imem_addr_at, imem_data_at, retired_from, retired_in}
use Rattle.ck_design.specs.Retirements as design
use Rattle.ck_design.specs.Retirements.{field_in, probe_in, retire_in, retired_by}
use Rattle.ck_design.specs.Loaded.{BoundNetsAreLoaded, HaveFields, IsDeclared, ShowsMap}
use Rattle.ck_design.proofs.Carried.{given_back, lowered_on, maps_same}
use Rattle.ck_design.proofs.Entries.{field_declared, field_number}

-- ---- fields that aren't refused are outputs

-- there is an output
abbrev IsOutput : Names → Field → Type 0
IsOutput names field = (n : NetName) × (output_of names field ≡ Some n)

none_left : {A : Type 0} (a b : Option A) → option_or a b ≡ None → a ≡ None
none_left None b e = refl
none_left (Some x) b e = e

none_right : {A : Type 0} (a b : Option A) → option_or a b ≡ None → b ≡ None
none_right None b e = e
none_right (Some x) b e = absurd (true≢false (sym (ap is_none e)))

accepted : (names : Names) (channels : ℕ) (field : Field) (o : Option NetName) → output_of names field ≡ o
    → judged channels field o ≡ None → IsOutput names field
accepted names channels field None e h = absurd (true≢false (sym (ap is_none h)))
accepted names channels field (Some n) e h = (n, e)

all_accepted : (names : Names) (channels : ℕ) (fields : List Field) → first_refused names channels fields ≡ None
    → AllByRecursion (IsOutput names) fields
all_accepted names channels [] h = tt
all_accepted names channels (field ∷ fields) h =
    let own = output_of names field in (
      accepted names channels field own refl (none_left (judged channels field own) _ h),
      all_accepted names channels fields (none_right (judged channels field own) _ h),
    )

pub front : {A : Type 0} (P : A → Type 0) (xs ys : List A) → AllByRecursion P (xs ++ ys) → AllByRecursion P xs
front P [] ys h = tt
front P (x ∷ xs) ys h = (h.0, front P xs ys h.1)

pub rear : {A : Type 0} (P : A → Type 0) (xs ys : List A) → AllByRecursion P (xs ++ ys) → AllByRecursion P ys
rear P [] ys h = h
rear P (x ∷ xs) ys h = rear P xs ys h.1

module _ (ps : List Part) (old new : Netlist) (names : Names) (lowered : IsLowered ps old names) (whole : IsNet old)
    (adds : AddsNodes old new) where
  declared_all : (fields : List Field) → AllByRecursion (IsOutput names) fields
      → AllByRecursion (IsDeclared ps) fields
  declared_all [] h = tt
  declared_all (field ∷ fields) h =
      (field_declared ps old names field h.0.0 lowered.named lowered.entries h.0.1, declared_all fields h.1)

  module _ (g : Given) (is : IsGiven new g) where
    abbrev v : Values
    v = map_of new names g

    was : IsGiven old g
    was = given_back old new whole adds g is

    -- the number of an output, in the net and in the map
    output_is : (field : Field) → IsOutput names field
        → output_value old g (output_of names field) ≡ v (field_name field)
    output_is field o =
        ap (output_value old g) o.1
        ∙ sym (field_number old names g field o.0 lowered.named o.1)
        ∙ sym (ap (λ (m : Values). m (field_name field)) (maps_same old new whole adds names g lowered.named))

    -- the value of a node that shows a channel's part of an output
    shown : (channel : ℕ) (field : Field) (id : ℕ) → IsOutput names field
        → Shows old new (field_width field) (λ h. field_value old h names channel field) id
        → value_at new g id ≡ field_in v channel field
    shown channel field id o s =
        s.value g was ∙ ap (part (channel * field_width field) (field_width field)) (output_is field o)

    probed : (field : Field) (id : ℕ) → IsOutput names field → IsProbe old new names field id
        → value_at new g id ≡ v (field_name field)
    probed field id o s = s.value g was ∙ output_is field o

    module _ (o : AllByRecursion (IsOutput names) channel_fields) where
      retire_is : (channel : ℕ) (c : Channel) → IsChannel old new names channel c
          → retire_at new g c ≡ retire_in v channel
      retire_is channel c s = λ i. record {
        order = shown channel f.Order c.order o.1.0 s.1.0 i;
        insn = shown channel f.Insn c.insn o.1.1.0 s.1.1.0 i;
        trap = shown channel f.Trap c.trap o.1.1.1.0 s.1.1.1.0 i == 1;
        halt = shown channel f.Halt c.halt o.1.1.1.1.0 s.1.1.1.1.0 i == 1;
        intr = shown channel f.Intr c.intr o.1.1.1.1.1.0 s.1.1.1.1.1.0 i == 1;
        rs1_addr = shown channel f.Rs1Addr c.rs1_addr o.1.1.1.1.1.1.0 s.1.1.1.1.1.1.0 i;
        rs2_addr = shown channel f.Rs2Addr c.rs2_addr o.1.1.1.1.1.1.1.0 s.1.1.1.1.1.1.1.0 i;
        rs1_rdata = shown channel f.Rs1Rdata c.rs1_rdata o.1.1.1.1.1.1.1.1.0 s.1.1.1.1.1.1.1.1.0 i;
        rs2_rdata = shown channel f.Rs2Rdata c.rs2_rdata o.1.1.1.1.1.1.1.1.1.0 s.1.1.1.1.1.1.1.1.1.0 i;
        rd_addr = shown channel f.RdAddr c.rd_addr o.1.1.1.1.1.1.1.1.1.1.0 s.1.1.1.1.1.1.1.1.1.1.0 i;
        rd_wdata = shown channel f.RdWdata c.rd_wdata o.1.1.1.1.1.1.1.1.1.1.1.0 s.1.1.1.1.1.1.1.1.1.1.1.0 i;
        pc_rdata = shown channel f.PcRdata c.pc_rdata o.1.1.1.1.1.1.1.1.1.1.1.1.0 s.1.1.1.1.1.1.1.1.1.1.1.1.0 i;
        pc_wdata = shown channel f.PcWdata c.pc_wdata o.1.1.1.1.1.1.1.1.1.1.1.1.1.0
            s.1.1.1.1.1.1.1.1.1.1.1.1.1.0 i;
        mem_addr = shown channel f.MemAddr c.mem_addr o.1.1.1.1.1.1.1.1.1.1.1.1.1.1.0
            s.1.1.1.1.1.1.1.1.1.1.1.1.1.1.0 i;
        mem_rmask = shown channel f.MemRmask c.mem_rmask o.1.1.1.1.1.1.1.1.1.1.1.1.1.1.1.0
            s.1.1.1.1.1.1.1.1.1.1.1.1.1.1.1.0 i;
        mem_wmask = shown channel f.MemWmask c.mem_wmask o.1.1.1.1.1.1.1.1.1.1.1.1.1.1.1.1.0
            s.1.1.1.1.1.1.1.1.1.1.1.1.1.1.1.1.0 i;
        mem_rdata = shown channel f.MemRdata c.mem_rdata o.1.1.1.1.1.1.1.1.1.1.1.1.1.1.1.1.1.0
            s.1.1.1.1.1.1.1.1.1.1.1.1.1.1.1.1.1.0 i;
        mem_wdata = shown channel f.MemWdata c.mem_wdata o.1.1.1.1.1.1.1.1.1.1.1.1.1.1.1.1.1.1.0
            s.1.1.1.1.1.1.1.1.1.1.1.1.1.1.1.1.1.1.0 i;
      }

      fields_are : (channel : ℕ) (c : Channel) → IsChannel old new names channel c
          → map (value_at new g) (nodes_of c) ≡ map (field_in v channel) channel_fields
      fields_are channel c s = λ i.
          shown channel f.Valid c.valid o.0 s.0 i ∷
          shown channel f.Order c.order o.1.0 s.1.0 i ∷
          shown channel f.Insn c.insn o.1.1.0 s.1.1.0 i ∷
          shown channel f.Trap c.trap o.1.1.1.0 s.1.1.1.0 i ∷
          shown channel f.Halt c.halt o.1.1.1.1.0 s.1.1.1.1.0 i ∷
          shown channel f.Intr c.intr o.1.1.1.1.1.0 s.1.1.1.1.1.0 i ∷
          shown channel f.Rs1Addr c.rs1_addr o.1.1.1.1.1.1.0 s.1.1.1.1.1.1.0 i ∷
          shown channel f.Rs2Addr c.rs2_addr o.1.1.1.1.1.1.1.0 s.1.1.1.1.1.1.1.0 i ∷
          shown channel f.Rs1Rdata c.rs1_rdata o.1.1.1.1.1.1.1.1.0 s.1.1.1.1.1.1.1.1.0 i ∷
          shown channel f.Rs2Rdata c.rs2_rdata o.1.1.1.1.1.1.1.1.1.0 s.1.1.1.1.1.1.1.1.1.0 i ∷
          shown channel f.RdAddr c.rd_addr o.1.1.1.1.1.1.1.1.1.1.0 s.1.1.1.1.1.1.1.1.1.1.0 i ∷
          shown channel f.RdWdata c.rd_wdata o.1.1.1.1.1.1.1.1.1.1.1.0 s.1.1.1.1.1.1.1.1.1.1.1.0 i ∷
          shown channel f.PcRdata c.pc_rdata o.1.1.1.1.1.1.1.1.1.1.1.1.0 s.1.1.1.1.1.1.1.1.1.1.1.1.0 i ∷
          shown channel f.PcWdata c.pc_wdata o.1.1.1.1.1.1.1.1.1.1.1.1.1.0 s.1.1.1.1.1.1.1.1.1.1.1.1.1.0 i ∷
          shown channel f.MemAddr c.mem_addr o.1.1.1.1.1.1.1.1.1.1.1.1.1.1.0 s.1.1.1.1.1.1.1.1.1.1.1.1.1.1.0 i ∷
          shown channel f.MemRmask c.mem_rmask o.1.1.1.1.1.1.1.1.1.1.1.1.1.1.1.0 s.1.1.1.1.1.1.1.1.1.1.1.1.1.1.1.0 i ∷
          shown channel f.MemWmask c.mem_wmask o.1.1.1.1.1.1.1.1.1.1.1.1.1.1.1.1.0 s.1.1.1.1.1.1.1.1.1.1.1.1.1.1.1.1.0 i ∷
          shown channel f.MemRdata c.mem_rdata o.1.1.1.1.1.1.1.1.1.1.1.1.1.1.1.1.1.0 s.1.1.1.1.1.1.1.1.1.1.1.1.1.1.1.1.1.0 i ∷
          shown channel f.MemWdata c.mem_wdata o.1.1.1.1.1.1.1.1.1.1.1.1.1.1.1.1.1.1.0 s.1.1.1.1.1.1.1.1.1.1.1.1.1.1.1.1.1.1.0 i ∷
          []

      have_fields : (channel : ℕ) (cs : List Channel) → AreChannels old new names channel cs
          → HaveFields new g v channel cs
      have_fields channel [] s = tt
      have_fields channel (c ∷ cs) s = (fields_are channel c s.0, have_fields (channel + 1) cs s.1)

      retired_is : (cycle channel : ℕ) (c : Channel) → IsChannel old new names channel c
          → retired_in new g cycle channel c ≡ retired_by v cycle channel
      retired_is cycle channel c s = λ i.
          if shown channel f.Valid c.valid o.0 s.0 i == 1
          then record { cycle = cycle; channel = channel; retire = retire_is channel c s i } ∷ [] else []

      retired_are : (cycle channel : ℕ) (cs : List Channel) → AreChannels old new names channel cs
          → retired_from new g cycle channel cs ≡ design.retired_from v cycle channel (length cs)
      retired_are cycle channel [] s = refl
      retired_are cycle channel (c ∷ cs) s = λ i.
          retired_is cycle channel c s.0 i ++ retired_are cycle (channel + 1) cs s.1 i

    -- ---- what is probed

    imem_addr_is : (wanted : Bool) (p : Option (ℕ × ℕ))
        → AllByRecursion (IsOutput names) (if wanted then f.ImemAddr ∷ f.ImemData ∷ [] else [])
        → IsImem old new names wanted p
        → imem_addr_at new g p ≡ (if wanted then v (field_name f.ImemAddr) else 0)
    imem_addr_is true (Some p) o s = probed f.ImemAddr p.0 o.0 s.0
    imem_addr_is true None o s = absurd s
    imem_addr_is false None o s = refl
    imem_addr_is false (Some p) o s = absurd s

    imem_data_is : (wanted : Bool) (p : Option (ℕ × ℕ))
        → AllByRecursion (IsOutput names) (if wanted then f.ImemAddr ∷ f.ImemData ∷ [] else [])
        → IsImem old new names wanted p
        → imem_data_at new g p ≡ (if wanted then v (field_name f.ImemData) else 0)
    imem_data_is true (Some p) o s = probed f.ImemData p.1 o.1.0 s.1
    imem_data_is true None o s = absurd s
    imem_data_is false None o s = refl
    imem_data_is false (Some p) o s = absurd s

    dmem_addr_is : (wanted : Bool) (p : Option ℕ)
        → AllByRecursion (IsOutput names) (if wanted then f.DmemAddr ∷ [] else [])
        → IsDmem old new names wanted p
        → dmem_addr_at new g p ≡ (if wanted then v (field_name f.DmemAddr) else 0)
    dmem_addr_is true (Some p) o s = probed f.DmemAddr p o.0 s
    dmem_addr_is true None o s = absurd s
    dmem_addr_is false None o s = refl
    dmem_addr_is false (Some p) o s = absurd s

    shows_map : (channels : ℕ) (wants : Wants) (port : Port) → IsPortOf old new names channels wants port
        → AllByRecursion (IsOutput names) (wanted_fields wants) → ShowsMap new g channels wants port v
    shows_map channels wants port p o =
        let own = front (IsOutput names) channel_fields (probed_fields wants) o in
        let more = rear (IsOutput names) channel_fields (probed_fields wants) o in
        let imem = front (IsOutput names) (if wants.imem then f.ImemAddr ∷ f.ImemData ∷ [] else []) _ more in
        let dmem = rear (IsOutput names) (if wants.imem then f.ImemAddr ∷ f.ImemData ∷ [] else []) _ more in
        record {
          fields = have_fields own 0 port.channels p.each;
          retired = λ cycle. retired_are own cycle 0 port.channels p.each
              ∙ ap (design.retired_from v cycle 0) p.many;
          probe = λ i. record {
            imem_addr = imem_addr_is wants.imem port.imem imem p.imem i;
            imem_data = imem_data_is wants.imem port.imem imem p.imem i;
            dmem_addr = dmem_addr_is wants.dmem port.dmem dmem p.dmem i;
          };
        }

pub bound_loaded : BoundNetsAreLoaded
bound_loaded ps old new names channels wants port lowered whole grown adds p h =
    let o = all_accepted names channels (wanted_fields wants)
    (none_left (first_refused names channels (wanted_fields wants)) _ h) in
    record {
      lowered = lowered_on ps old new names lowered whole adds;
      nodes = port_nodes old new names channels wants port p;
      many = p.many;
      declared = declared_all ps old new names lowered whole adds (wanted_fields wants) o;
      shows = λ g is. shows_map ps old new names lowered whole adds g is channels wants port p o;
    }
