use Rattle.std.specs.Prelude.{◌≡◌, refl, ◌<◌, ℕ, List, length, slice_index_or}
use Rattle.std.specs.List.{AllByRecursion}
use Rattle.std.proofs.Common.{ap, sym, ◌∙◌, subst, arith}
use Rattle.wn_net.specs.Net.{Netlist, AreNodes}
use Rattle.bm_decide.specs.Runs.{ModelsAreRuns, values_in}
use Rattle.rvfi_port.specs.declared.port.Channel.{Channel}
use Rattle.rvfi_port.specs.Channels.{nodes_of}
use Rattle.rvfi_port.specs.Ports.{AreChannelNodes}
use Rattle.rvfi_port.proofs.AddedRegs.{channel_nodes_on}
use Rattle.ck_gen.proofs.Words.{channel_here}
use Rattle.ck_gen.specs.Monitors.{AddsFew}
use Rattle.ck_gen.proofs.Once.{no_channel}
use Rattle.bb_clauses.specs.Models.{read_at}
use Rattle.bm_decide.specs.Verdicts.{AreBitsOf, field_nodes, Gives, fields_in}
use Rattle.bm_decide.proofs.Channels.{nodes_at, nodes_there}
use Rattle.bm_decide.proofs.Sources.{old_choices, old_widths}
use Rattle.bm_decide.proofs.Tight.{tight}
use Rattle.bm_decide.proofs.deciding.decide.Goals as goal
use Rattle.std.proofs.lemmas.Result.{IfOk-weaker}
use Rattle.bm_unroll.specs.Frames.{IsBadRun, IsChoice}
use Rattle.ck_ask.specs.Questions.{question_channel, question_cycle}
use Rattle.ck_ask.proofs.Lawful.{channel_within, not_late}
use Rattle.bm_decide.specs.Settled.{bits_of}
use Rattle.bm_decide.proofs.SettledRuns.{settled}

few : (old mid new : Netlist) → mid ≡ old → AddsFew mid new → AddsFew old new
few old mid new e h = let P : Netlist → Type 0 = λ n. AddsFew n new in subst P e h

own : (net : Netlist) (cs : List Channel) (i : ℕ) → AllByRecursion (AreChannelNodes net) cs → i < length cs
    → AreChannelNodes net (slice_index_or cs i no_channel)
own net cs i h less = channel_here net cs i (slice_index_or cs i no_channel) no_channel h less refl

-- the watched nodes are those of the question's channel
are : (ids : List ℕ) (xs cs : List Channel) (k i : ℕ) → ids ≡ nodes_of (slice_index_or xs k no_channel) → xs ≡ cs
    → k ≡ i → ids ≡ nodes_of (slice_index_or cs i no_channel)
are ids xs cs k i e f g =
    e ∙ ap (λ ys. nodes_of (slice_index_or ys k no_channel)) f ∙ ap (λ n. nodes_of (slice_index_or cs n no_channel)) g

pub bounds-channels-channel : goal.bounds-channels-channel
bounds-channels-channel g c =
    let within = channel_within (length c.args.port.now.channels) c.args.question.now c.requires.question in
    let l : length c.as_slice-channels.result.now ≡ length c.args.port.now.channels =
    ap length c.as_slice-channels.ensures in
    omega (arith, within, l, c.channel.ensures)

pub clauses_of_runs-requires-clause-cycle : goal.clauses_of_runs-requires-clause-cycle
clauses_of_runs-requires-clause-cycle g c =
    let late = not_late (length c.args.port.now.channels) c.args.question.now c.requires.question in
    omega (arith, late, c.cycle.ensures)

pub clauses_of_runs-requires-clause-watch : goal.clauses_of_runs-requires-clause-watch
clauses_of_runs-requires-clause-watch g c =
    let port = c.args.port.now in
    let q = c.args.question.now in
    let i = question_channel q in
    let x = slice_index_or port.channels i no_channel in
    let P : List ℕ → Type 0 = λ ids. AreNodes c.ask.new.net ids in
    let known = (few c.args.net.now c.in_ok-watched.watched c.ask.new.net c.in_ok-watched.ensures
    c.in_ok-bad.ensures.known).known in
    let e = are c.nodes_of-fields.result c.as_slice-channels.result.now port.channels c.channel.result i
    c.nodes_of-fields.ensures c.as_slice-channels.ensures c.channel.ensures in
    subst P (sym e)
    (nodes_there c.ask.new.net x (channel_nodes_on c.args.net.now c.ask.new.net x known.adds
    (own c.args.net.now port.channels i c.requires.port.channels
    (channel_within (length port.channels) q c.requires.question))))

pub returns : goal.returns
returns g c =
    let net = c.args.net.now in
    let new = c.ask.new.net in
    let port = c.args.port.now in
    let q = c.args.question.now in
    let opts = c.args.opts in
    let i = question_channel q in
    let made = c.in_ok-clauses.clauses in
    let formula = made.encoded.formula in
    let added = few net c.in_ok-watched.watched new c.in_ok-watched.ensures c.in_ok-bad.ensures.known in
    let known = added.known in
    let within : i < length port.channels = channel_within (length port.channels) q c.requires.question in
    let channel_is = are c.nodes_of-fields.result c.as_slice-channels.result.now port.channels c.channel.result i
    c.nodes_of-fields.ensures c.as_slice-channels.ensures c.channel.ensures in
    let x = slice_index_or port.channels i no_channel in
    let ids : List ℕ = c.nodes_of-fields.result in
    let P : List ℕ → Type 0 = λ ns. AreNodes net ns in
    let there : AreNodes net ids = subst P (sym channel_is)
    (nodes_there net x (own net port.channels i c.requires.port.channels within)) in
    let read = read_at made.encoded.places made.frames.widths in
    let K = question_cycle q in
    let last : c.cycle.result ≡ K = c.cycle.ensures in
    let S : ℕ → Type 0 = λ k. AllByRecursion (IsChoice new k) made.frames.sources in
    let sources : AllByRecursion (IsChoice new K) made.frames.sources = subst S last c.in_ok-clauses.ensures.sources in
    let M : ℕ → Type 0 = λ k. ModelsAreRuns new (IsBadRun new c.in_ok-bad.bad k) (values_in new k ids)
    made.frames.sources read made.encoded.watch formula in
    let models = subst M last c.in_ok-clauses.ensures.models in
    let runs = tight net new added.registers port q opts c.in_ok-bad.bad ids made.frames.sources read
    made.encoded.watch formula c.nodes.ensures.whole c.nodes-2.ensures.whole known c.requires.port there
    c.in_ok-bad.ensures.tells sources models in
    let Q : List ℕ → Type 0 = λ ns. ModelsAreRuns net (Gives net port q opts) (values_in net K ns)
    made.frames.sources read made.encoded.watch formula in
    let fields : ids ≡ field_nodes port q = channel_is ∙ nodes_at port.channels i no_channel within in
    let bits : AreBitsOf net K (bits_of made) = record {
      sources = old_choices net new added.registers K made.frames.sources known sources;
      distinct = c.in_ok-clauses.ensures.distinct;
      widths = c.in_ok-clauses.ensures.widths
          ∙ old_widths net new added.registers K made.frames.sources known sources;
      places = c.in_ok-clauses.ensures.places;
    } in
    IfOk-weaker c.settle.result _ _
    (λ verdict s. settled net K (Gives net port q opts) (fields_in net port q)
    (g.S.Search.more c.args.search.now c.args.budget) c.args.budget made verdict bits (subst Q fields runs) s)
    c.settle.ensures
