-- Outputs that are found, and lists of them.
use Rattle.std.specs.Prelude.{◌≡◌, refl, ℕ, ◌==◌, Bool, true, false, ◌&&◌, not, if◌then◌else◌}
use Rattle.std.specs.Prelude.{List, [], ◌∷◌, ◌++◌, Option, Some, None, find}
use Rattle.std.specs.Option.{option_or}
use Rattle.std.specs.List.{AllByRecursion}
use Rattle.std.specs.Str.{bytes_eq}
use Rattle.std.proofs.Common.{ap, sym, ◌∙◌, arith, subst}
use Rattle.wn_net.specs.declared.names.NetName.{NetName}
use Rattle.wn_net.specs.declared.names.Names.{Names}
use Rattle.wn_net.specs.declared.names.Place.{Place}
use Rattle.wn_net.specs.declared.names.Place.TheVariants as place
use Rattle.wn_net.specs.Net.{Netlist, IsNodeOf}
use Rattle.wn_net.specs.Names.{IsPlaced, IsNameOf, AreNamesOf, number_at}
use Rattle.rvfi_port.specs.declared.field.Field.{Field}
use Rattle.rvfi_port.specs.declared.fault.PortFault.{PortFault}
use Rattle.rvfi_port.specs.declared.fault.PortFault.TheVariants as fault
use Rattle.std.proofs.lemmas.Bool.Decides.{nat_tests}
use Rattle.rvfi_port.specs.declared.field.Field.TheVariants as f
use Rattle.rvfi_port.specs.declared.port.Wants.{Wants}
use Rattle.rvfi_port.specs.Fields.{field_name, field_width, channel_fields}
use Rattle.rvfi_port.specs.Channels.{IsProbe, IsDmem, IsImem}
use Rattle.wn_net.specs.Changes.{AddsNodes}
use Rattle.wn_net.proofs.Laws.{value_on, node_on}
use Rattle.rvfi_port.specs.Outputs.{output_of, wanted_width, judged, first_refused, output_value, IsOutput}
use Rattle.rvfi_port.specs.Outputs.{refusal, dmem_refusal, Answered}

-- what is found is one of the list, and passes
found : {X : Type 0} (P : X → Type 0) (p : X → Bool) (xs : List X) (x : X) → AllByRecursion P xs → find p xs ≡ Some x
    → P x × (p x ≡ true)
found P p [] x h e = cc
found {X} P p (y ∷ ys) x h e = by (p y) refl (found P p ys x h.1)
  where
    by : (b : Bool) → p y ≡ b → (find p ys ≡ Some x → P x × (p x ≡ true)) → P x × (p x ≡ true)
    by true t later =
        let all : find p (y ∷ ys) ≡ Some y = ap (λ b. if b then Some y else find p ys) t in
        let same : y ≡ x = alike y x (sym all ∙ e) in
        let Q : X → Type 0 = λ z. P z × (p z ≡ true) in
        subst Q same (h.0, t)
      where
        alike : (a b : X) → Some a ≡ Some b → a ≡ b
        alike a b q = cc
    by false t later = later (sym (ap (λ b. if b then Some y else find p ys) t) ∙ e)

both : (a b : Bool) → (a && b) ≡ true → a ≡ true
both true b e = refl
both false b e = e

-- the output of a field has its place in the net, and is no memory
pub found_output : (net : Netlist) (names : Names) (field : Field) (n : NetName) → AreNamesOf net names
    → output_of names field ≡ Some n → IsNameOf net n × (n.output ≡ true)
found_output net names field n own e =
    let h = found (IsNameOf net) (λ n. n.output && bytes_eq n.text (field_name field)) names.list n own.placed e in
    (h.0, both n.output (bytes_eq n.text (field_name field)) h.1)

-- the node of an output of the width that is wanted
pub output_here : (net : Netlist) (names : Names) (channels : ℕ) (field : Field) (n : NetName) (id : ℕ)
    → AreNamesOf net names → output_of names field ≡ Some n → n.width ≡ wanted_width channels field
    → n.place ≡ place.Node id → IsOutput net names channels field id
output_here net names channels field n id own e wide at =
    let h = found_output net names field n own e in
    let P : Place → Type 0 = λ p. IsPlaced net n.width n.output n.words p in
    let here : IsPlaced net n.width n.output n.words (place.Node id) = subst P at h.0 in
    record {
      accepted = ap (judged channels field) e
          ∙ same (n.width == wanted_width channels field) (Some (fault.Width field n.width (wanted_width channels field)))
          (grind (arith, nat_tests, wide));
      node = let Q : ℕ → Type 0 = λ w. IsNodeOf net w id in subst Q wide here.0;
      value = λ g. sym (ap (output_value net g) e ∙ ap (number_at net g) at);
    }
  where
    same : (b : Bool) (o : Option PortFault) → b ≡ true → (if b then None else o) ≡ None
    same true o t = refl
    same false o t = cc

-- no output is a memory
pub no_memory : (net : Netlist) (names : Names) (field : Field) (n : NetName) (m : ℕ) → AreNamesOf net names
    → output_of names field ≡ Some n → n.place ≡ place.Mem m → ⊥
no_memory net names field n m own e at =
    let h = found_output net names field n own e in
    let P : Place → Type 0 = λ p. IsPlaced net n.width n.output n.words p in
    let here : IsPlaced net n.width n.output n.words (place.Mem m) = subst P at h.0 in
    by n.output here.2 h.1
  where
    by : (b : Bool) → b ≡ false → b ≡ true → ⊥
    by b p q = cc

-- ---- the refusal, part by part

later : {X : Type 0} (a b c : Option X) → option_or a (option_or b c) ≡ option_or (option_or a b) c
later None b c = refl
later (Some x) b c = refl

first_append : (names : Names) (channels : ℕ) (xs ys : List Field)
    → first_refused names channels (xs ++ ys) ≡ option_or (first_refused names channels xs) (first_refused names channels ys)
first_append names channels [] ys = refl
first_append names channels (x ∷ xs) ys =
    ap (option_or (judged channels x (output_of names x))) (first_append names channels xs ys)
    ∙ later (judged channels x (output_of names x)) (first_refused names channels xs) (first_refused names channels ys)

-- of the channels' fields, of the probe of instruction memory, of that of data memory
pub refusal_parts : (names : Names) (channels : ℕ) (wants : Wants)
    → refusal names channels wants
    ≡ option_or (first_refused names channels channel_fields)
    (option_or (first_refused names channels (if wants.imem then f.ImemAddr ∷ f.ImemData ∷ [] else []))
    (dmem_refusal names channels wants))
refusal_parts names channels wants =
    let imem = if wants.imem then f.ImemAddr ∷ f.ImemData ∷ [] else [] in
    let dmem = if wants.dmem then f.DmemAddr ∷ [] else [] in
    let needs = if wants.dmem && not wants.aligned then Some fault.NeedsAligned else None in
    ap (λ o. option_or o needs)
    (first_append names channels channel_fields (imem ++ dmem)
    ∙ ap (option_or (first_refused names channels channel_fields)) (first_append names channels imem dmem))
    ∙ sym (later (first_refused names channels channel_fields)
    (option_or (first_refused names channels imem) (first_refused names channels dmem)) needs)
    ∙ ap (option_or (first_refused names channels channel_fields))
    (sym (later (first_refused names channels imem) (first_refused names channels dmem) needs))

pub answered_front : (x : PortFault) (a b : Option PortFault) → Answered x a → Answered x (option_or a b)
answered_front fault.Memory a b e = tt
answered_front (fault.Missing g) a b e = ap (λ o. option_or o b) e
answered_front (fault.Width g w v) a b e = ap (λ o. option_or o b) e
answered_front fault.NeedsAligned a b e = ap (λ o. option_or o b) e

pub answered_behind : (x : PortFault) (a b : Option PortFault) → a ≡ None → Answered x b → Answered x (option_or a b)
answered_behind x a b none e =
    let P : Option PortFault → Type 0 = λ o. Answered x (option_or o b) in subst P (sym none) e

pub none_of : (a b : Option PortFault) → a ≡ None → b ≡ None → option_or a b ≡ None
none_of a b p q = ap (λ o. option_or o b) p ∙ q

-- ---- probes in a net with more nodes

probe_on : (old new : Netlist) (names : Names) (field : Field) (id : ℕ) → AddsNodes old new
    → IsProbe old old names field id → IsProbe old new names field id
probe_on old new names field id more own = record {
  node = node_on old new (field_width field) id more own.node;
  value = λ g given. value_on old new g id more own.node.0 ∙ own.value g given;
}

pub dmem_on : (old new : Netlist) (names : Names) (wanted : Bool) (probe : Option ℕ) → AddsNodes old new
    → IsDmem old old names wanted probe → IsDmem old new names wanted probe
dmem_on old new names true (Some id) more own = probe_on old new names f.DmemAddr id more own
dmem_on old new names true None more own = absurd own
dmem_on old new names false None more own = tt
dmem_on old new names false (Some id) more own = absurd own

pub imem_on : (old new : Netlist) (names : Names) (wanted : Bool) (probe : Option (ℕ × ℕ)) → AddsNodes old new
    → IsImem old old names wanted probe → IsImem old new names wanted probe
imem_on old new names true (Some p) more own =
    (probe_on old new names f.ImemAddr p.0 more own.0, probe_on old new names f.ImemData p.1 more own.1)
imem_on old new names true None more own = absurd own
imem_on old new names false None more own = tt
imem_on old new names false (Some p) more own = absurd own
