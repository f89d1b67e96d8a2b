-- Parts of outputs, one for each field, and lists of nodes by their places.
use Rattle.std.specs.Prelude.{◌≡◌, refl, ℕ, zero, suc, ◌+◌, ◌*◌, ◌<◌, ◌≤◌, List, [], ◌∷◌, ◌++◌, length, take, drop}
use Rattle.std.specs.Prelude.{slice_index_or, Option, Some, None, true, if◌then◌else◌}
use Rattle.std.specs.Option.{option_or}
use Rattle.std.proofs.Common.{ap, sym, ◌∙◌, arith, subst}
use Rattle.std.proofs.lemmas.List.{drop_more, drop_all}
use Rattle.fv_bits.specs.Bits.{part}
use Rattle.wn_net.specs.declared.names.Names.{Names}
use Rattle.wn_net.specs.Net.{Netlist, IsNet, IsNode, widths_of}
use Rattle.wn_net.proofs.Kept.{width_at_small}
use Rattle.wn_net.specs.Changes.{AddsNodes}
use Rattle.wn_net.proofs.Laws.{value_on, node_on, there_on, given_on}
use Rattle.rvfi_port.specs.declared.field.Field.{Field}
use Rattle.rvfi_port.specs.declared.fault.PortFault.{PortFault}
use Rattle.rvfi_port.specs.declared.fault.PortFault.TheVariants as fault
use Rattle.rvfi_port.specs.declared.port.Channel.{Channel}
use Rattle.rvfi_port.specs.Fields.{field_width, is_per_channel, channel_fields}
use Rattle.rvfi_port.specs.Outputs.{output_of, wanted_width, judged, first_refused, Answered, IsOutput}
use Rattle.rvfi_port.specs.Outputs.{AreOutputs}
use Rattle.rvfi_port.specs.Channels.{nodes_of, AreFieldNodes, AreChannels}
use Rattle.rvfi_port.specs.Parts.{Reaches, AllReach, IsPart, AreParts, AreCut}

-- so many elements from a place on
abbrev pub firsts : ℕ → ℕ → List ℕ → List ℕ
firsts zero i xs = []
firsts (suc n) i xs = slice_index_or xs i 0 ∷ firsts n (suc i) xs

pub listed : (n i : ℕ) (xs : List ℕ) → length xs ≡ i + n → firsts n i xs ≡ drop i xs
listed zero i xs long = sym (drop_all i xs (omega (arith, long)))
listed (suc n) i xs long =
    ap (λ ys. slice_index_or xs i 0 ∷ ys) (listed n (suc i) xs (omega (arith, long)))
    ∙ sym (drop_more xs i 0 (omega (arith, long)) ∙ ap (λ k. slice_index_or xs i 0 ∷ drop k xs) more)
  where
    more : i + 1 ≡ suc i
    more = omega arith

-- ---- outputs, one more than before

pub outputs_push : (net : Netlist) (names : Names) (channels : ℕ) (fields : List Field) (ids : List ℕ) (i id : ℕ)
    (d : Field) → AreOutputs net names channels (take i fields) ids → i < length fields
    → IsOutput net names channels (slice_index_or fields i d) id
    → AreOutputs net names channels (take (suc i) fields) (ids ++ id ∷ [])
outputs_push net names channels [] ids i id d own below more = absurd (omega arith)
outputs_push net names channels (f ∷ fs) [] zero id d own below more = (more, none net names channels fs)
  where
    none : (net : Netlist) (names : Names) (channels : ℕ) (fs : List Field)
        → AreOutputs net names channels (take 0 fs) []
    none net names channels fs = tt
outputs_push net names channels (f ∷ fs) (x ∷ xs) zero id d own below more = absurd own
outputs_push net names channels (f ∷ fs) [] (suc i) id d own below more = absurd own
outputs_push net names channels (f ∷ fs) (x ∷ xs) (suc i) id d own below more =
    (own.0, outputs_push net names channels fs xs i id d own.1 (omega arith) more)

-- the first of the fields that is refused
pub outputs_refused : (net : Netlist) (names : Names) (channels : ℕ) (fields : List Field) (ids : List ℕ) (i : ℕ)
    (d : Field) (o : PortFault) → AreOutputs net names channels (take i fields) ids → i < length fields
    → judged channels (slice_index_or fields i d) (output_of names (slice_index_or fields i d)) ≡ Some o
    → first_refused names channels fields ≡ Some o
outputs_refused net names channels [] ids i d o own below e = absurd (omega arith)
outputs_refused net names channels (f ∷ fs) ids zero d o own below e =
    ap (λ x. option_or x (first_refused names channels fs)) e
outputs_refused net names channels (f ∷ fs) [] (suc i) d o own below e = absurd own
outputs_refused net names channels (f ∷ fs) (x ∷ xs) (suc i) d o own below e =
    ap (λ x. option_or x (first_refused names channels fs)) own.0.accepted
    ∙ outputs_refused net names channels fs xs i d o own.1 (omega arith) e

pub outputs_accepted : (net : Netlist) (names : Names) (channels : ℕ) (fields : List Field) (ids : List ℕ)
    → AreOutputs net names channels fields ids → first_refused names channels fields ≡ None
outputs_accepted net names channels [] [] own = refl
outputs_accepted net names channels [] (x ∷ xs) own = absurd own
outputs_accepted net names channels (f ∷ fs) [] own = absurd own
outputs_accepted net names channels (f ∷ fs) (x ∷ xs) own =
    ap (λ x. option_or x (first_refused names channels fs)) own.0.accepted
    ∙ outputs_accepted net names channels fs xs own.1

pub answered : (x : PortFault) (o : Option PortFault) → o ≡ Some x → Answered x o
answered fault.Memory o e = tt
answered (fault.Missing f) o e = e
answered (fault.Width f w v) o e = e
answered fault.NeedsAligned o e = e

-- ---- parts, one more than before

pub parts_on : (old now new : Netlist) (channel : ℕ) (fields : List Field) (wholes ids : List ℕ) → AddsNodes old now
    → AddsNodes now new → AreParts old now channel fields wholes ids → AreParts old new channel fields wholes ids
parts_on old now new channel [] [] [] before more own = tt
parts_on old now new channel [] [] (x ∷ xs) before more own = absurd own
parts_on old now new channel [] (w ∷ ws) ids before more own = absurd own
parts_on old now new channel (f ∷ fs) [] ids before more own = absurd own
parts_on old now new channel (f ∷ fs) (w ∷ ws) [] before more own = absurd own
parts_on old now new channel (f ∷ fs) (w ∷ ws) (x ∷ xs) before more own = (
  record {
    node = node_on now new (field_width f) x more own.0.node;
    value = λ g given. value_on now new g x more own.0.node.0 ∙ own.0.value g given;
  },
  parts_on old now new channel fs ws xs before more own.1,
)

pub parts_push : (old new : Netlist) (channel : ℕ) (fields : List Field) (wholes ids : List ℕ) (i id : ℕ) (d : Field)
    → AreParts old new channel (take i fields) (take i wholes) ids → i < length fields → i < length wholes
    → IsPart old new channel (slice_index_or fields i d) (slice_index_or wholes i 0) id
    → AreParts old new channel (take (suc i) fields) (take (suc i) wholes) (ids ++ id ∷ [])
parts_push old new channel [] wholes ids i id d own below room more = absurd (omega arith)
parts_push old new channel (f ∷ fs) [] ids i id d own below room more = absurd (omega arith)
parts_push old new channel (f ∷ fs) (w ∷ ws) [] zero id d own below room more = (more, tt)
parts_push old new channel (f ∷ fs) (w ∷ ws) (x ∷ xs) zero id d own below room more = absurd own
parts_push old new channel (f ∷ fs) (w ∷ ws) [] (suc i) id d own below room more = absurd own
parts_push old new channel (f ∷ fs) (w ∷ ws) (x ∷ xs) (suc i) id d own below room more =
    (own.0, parts_push old new channel fs ws xs i id d own.1 (omega arith) (omega arith) more)

-- as many outputs as fields, and each reaches the channel
pub reach_long : (net : Netlist) (channel : ℕ) (fields : List Field) (wholes : List ℕ)
    → AllReach net channel fields wholes → length wholes ≡ length fields
reach_long net channel [] [] own = refl
reach_long net channel [] (w ∷ ws) own = absurd own
reach_long net channel (f ∷ fs) [] own = absurd own
reach_long net channel (f ∷ fs) (w ∷ ws) own = ap suc (reach_long net channel fs ws own.1)

pub reach_here : (net : Netlist) (channel : ℕ) (fields : List Field) (wholes : List ℕ) (i : ℕ) (d : Field)
    → AllReach net channel fields wholes → i < length fields
    → Reaches net channel (slice_index_or fields i d) (slice_index_or wholes i 0)
reach_here net channel [] wholes i d own below = absurd (omega arith)
reach_here net channel (f ∷ fs) [] i d own below = absurd own
reach_here net channel (f ∷ fs) (w ∷ ws) zero d own below = own.0
reach_here net channel (f ∷ fs) (w ∷ ws) (suc i) d own below = reach_here net channel fs ws i d own.1 (omega arith)

pub reaches_on : (old new : Netlist) (channel : ℕ) (field : Field) (id : ℕ) → AddsNodes old new
    → Reaches old channel field id → Reaches new channel field id
reaches_on old new channel field id more own =
    let same = more.keeps.widths id own.0 in
    (there_on old new id more own.0, omega (arith, same, own.1), omega (arith, same, own.2))

pub all_reach_on : (old new : Netlist) (channel : ℕ) (fields : List Field) (wholes : List ℕ) → AddsNodes old new
    → AllReach old channel fields wholes → AllReach new channel fields wholes
all_reach_on old new channel [] [] more own = tt
all_reach_on old new channel [] (w ∷ ws) more own = absurd own
all_reach_on old new channel (f ∷ fs) [] more own = absurd own
all_reach_on old new channel (f ∷ fs) (w ∷ ws) more own =
    (reaches_on old new channel f w more own.0, all_reach_on old new channel fs ws more own.1)

pub parts_long : (old new : Netlist) (channel : ℕ) (fields : List Field) (wholes ids : List ℕ)
    → AreParts old new channel fields wholes ids → length ids ≡ length fields
parts_long old new channel [] [] [] own = refl
parts_long old new channel [] [] (x ∷ xs) own = absurd own
parts_long old new channel [] (w ∷ ws) ids own = absurd own
parts_long old new channel (f ∷ fs) [] ids own = absurd own
parts_long old new channel (f ∷ fs) (w ∷ ws) [] own = absurd own
parts_long old new channel (f ∷ fs) (w ∷ ws) (x ∷ xs) own = ap suc (parts_long old new channel fs ws xs own.1)

-- parts at a node that was there, in the net before
pub part_from : (old now new : Netlist) (channel : ℕ) (field : Field) (whole id : ℕ) → AddsNodes old now
    → IsNode old whole → IsPart now new channel field whole id → IsPart old new channel field whole id
part_from old now new channel field whole id before there own = record {
  node = own.node;
  value = λ g given. own.value g (given_on old now g before given)
      ∙ ap (part (channel * field_width field) (field_width field)) (value_on old now g whole before there);
}

pub parts_from : (old now new : Netlist) (channel : ℕ) (fields : List Field) (wholes ids : List ℕ) → AddsNodes old now
    → AllReach old channel fields wholes → AreParts now new channel fields wholes ids
    → AreParts old new channel fields wholes ids
parts_from old now new channel [] [] [] before reach own = tt
parts_from old now new channel [] [] (x ∷ xs) before reach own = absurd own
parts_from old now new channel [] (w ∷ ws) ids before reach own = absurd own
parts_from old now new channel (f ∷ fs) [] ids before reach own = absurd own
parts_from old now new channel (f ∷ fs) (w ∷ ws) [] before reach own = absurd own
parts_from old now new channel (f ∷ fs) (w ∷ ws) (x ∷ xs) before reach own = (
  part_from old now new channel f w x before reach.0.0 own.0,
  parts_from old now new channel fs ws xs before reach.1 own.1,
)

-- ---- channels

pub cut_on : (old now new : Netlist) (wholes : List ℕ) (k : ℕ) (cs : List Channel) → AddsNodes old now
    → AddsNodes now new → AreCut old now wholes k cs → AreCut old new wholes k cs
cut_on old now new wholes k [] before more own = tt
cut_on old now new wholes k (c ∷ cs) before more own = (
  parts_on old now new k channel_fields wholes (nodes_of c) before more own.0,
  cut_on old now new wholes (k + 1) cs before more own.1,
)

pub cut_push : (old new : Netlist) (wholes : List ℕ) (k : ℕ) (cs : List Channel) (c : Channel)
    → AreCut old new wholes k cs → AreParts old new (k + length cs) channel_fields wholes (nodes_of c)
    → AreCut old new wholes k (cs ++ c ∷ [])
cut_push old new wholes k [] c own more =
    let same : k + 0 ≡ k = omega arith in
    let P : ℕ → Type 0 = λ j. AreParts old new j channel_fields wholes (nodes_of c) in
    (subst P same more, tt)
cut_push old new wholes k (x ∷ xs) c own more =
    let same : k + length (x ∷ xs) ≡ k + 1 + length xs = omega arith in
    let P : ℕ → Type 0 = λ j. AreParts old new j channel_fields wholes (nodes_of c) in
    (own.0, cut_push old new wholes (k + 1) xs c own.1 (subst P same more))

-- ---- from outputs to channels

-- an output of all channels together reaches each of them
reaches_each : (net : Netlist) (names : Names) (channels k : ℕ) (field : Field) (id : ℕ) → IsNet net
    → is_per_channel field ≡ true → k < channels → IsOutput net names channels field id → Reaches net k field id
reaches_each net names channels k field id whole each below own =
    let wide : wanted_width channels field ≡ channels * field_width field =
    ap (λ b. if b then channels * field_width field else field_width field) each in
    let room : k * field_width field + field_width field ≤ channels * field_width field =
    omega (arith, times (field_width field)) in (
      own.node.0,
      omega (arith, own.node.1, wide, room),
      (width_at_small net net (widths_of net) id (record { whole = whole; widths = refl }) refl own.node.0).1,
    )
  where
    times : (w : ℕ) → k * w + w ≤ channels * w
    times zero = omega arith
    times (suc w) = omega (arith, times w, below)

abbrev AllEach : List Field → Type 0
AllEach [] = Unit {0}
AllEach (f ∷ fs) = (is_per_channel f ≡ true) × AllEach fs

all_each : (net : Netlist) (names : Names) (channels k : ℕ) (fields : List Field) (ids : List ℕ) → IsNet net → AllEach fields
    → k < channels → AreOutputs net names channels fields ids → AllReach net k fields ids
all_each net names channels k [] [] whole each below own = tt
all_each net names channels k [] (x ∷ xs) whole each below own = absurd own
all_each net names channels k (f ∷ fs) [] whole each below own = absurd own
all_each net names channels k (f ∷ fs) (x ∷ xs) whole each below own = (
  reaches_each net names channels k f x whole each.0 below own.0,
  all_each net names channels k fs xs whole each.1 below own.1,
)

each_field : AllEach channel_fields
each_field =
    (refl, (refl, (refl, (refl, (refl, (refl, (refl, (refl, (refl, (refl, (refl, (refl, (refl, (refl, (refl, (refl, (refl, (refl, (refl, tt)))))))))))))))))))

-- the outputs of a channel's fields reach each channel
pub outputs_reach : (net : Netlist) (names : Names) (channels : ℕ) (ids : List ℕ) → IsNet net
    → AreOutputs net names channels channel_fields ids → (k : ℕ) → k < channels → AllReach net k channel_fields ids
outputs_reach net names channels ids whole own k below =
    all_each net names channels k channel_fields ids whole each_field below own

-- parts of outputs are the channel's fields
fields_shown : (old new : Netlist) (names : Names) (channels k : ℕ) (fields : List Field) (wholes ids : List ℕ)
    → AreOutputs old names channels fields wholes → AreParts old new k fields wholes ids
    → AreFieldNodes old new names k fields ids
fields_shown old new names channels k [] [] [] outputs own = tt
fields_shown old new names channels k [] [] (x ∷ xs) outputs own = absurd own
fields_shown old new names channels k [] (w ∷ ws) ids outputs own = absurd own
fields_shown old new names channels k (f ∷ fs) [] ids outputs own = absurd own
fields_shown old new names channels k (f ∷ fs) (w ∷ ws) [] outputs own = absurd own
fields_shown old new names channels k (f ∷ fs) (w ∷ ws) (x ∷ xs) outputs own = (
  record {
    node = own.0.node;
    value = λ g given. own.0.value g given ∙ ap (part (k * field_width f) (field_width f)) (outputs.0.value g);
  },
  fields_shown old new names channels k fs ws xs outputs.1 own.1,
)

pub channels_shown : (old new : Netlist) (names : Names) (channels : ℕ) (wholes : List ℕ) (k : ℕ) (cs : List Channel)
    → AreOutputs old names channels channel_fields wholes → AreCut old new wholes k cs → AreChannels old new names k cs
channels_shown old new names channels wholes k [] outputs own = tt
channels_shown old new names channels wholes k (c ∷ cs) outputs own = (
  fields_shown old new names channels k channel_fields wholes (nodes_of c) outputs own.0,
  channels_shown old new names channels wholes (k + 1) cs outputs own.1,
)
