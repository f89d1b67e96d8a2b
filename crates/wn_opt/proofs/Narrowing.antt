-- Needed nodes of a net, with the inputs alone that are needed, one after the other.
use Rattle.std.specs.Prelude.{◌≡◌, refl, ℕ, zero, suc, ◌+◌, ◌-◌, ◌^◌, ◌<◌, ◌≤◌, Bool, true, false, List, [], ◌∷◌, ◌++◌}
use Rattle.std.specs.Prelude.{length, map, Some, None, Option, is_none, slice_get, slice_index}
use Rattle.std.specs.List.{AllByRecursion}
use Rattle.std.proofs.Common.{ap, sym, ◌∙◌, arith, subst, true≢false, ◌⊎◌, inl, inr}
use Rattle.std.proofs.lemmas.List.{length-map}
use Rattle.std.proofs.lemmas.Option.{same_Some}
use Rattle.fv_graph.proofs.Lists.{get_less, get_some, get_front, get_last, get_cases, length_more}
use Rattle.wn_net.specs.declared.node.Node.{Node}
use Rattle.wn_net.specs.declared.node.Node.TheVariants as n
use Rattle.wn_net.specs.declared.parts.Input.{Input}
use Rattle.wn_net.specs.declared.parts.Mem.{Mem}
use Rattle.wn_net.specs.Width.{IsWidth, IsFitting}
use Rattle.wn_net.specs.Value.{Given}
use Rattle.wn_net.specs.Net.{Netlist, IsNet, IsNodeOf, shape_of, widths_of, values_of, width_at, value_at}
use Rattle.wn_net.specs.Changes.{BuildsInput, with_node}
use Rattle.wn_net.proofs.Laws.{built_input_node, grown_node}
use Rattle.wn_net.proofs.Stays.{with_node_has_more, with_node_builds}
use Rattle.wn_run.proofs.Own.{each_value, each_width}
use Rattle.wn_opt.specs.declared.marks.Marks.{Marks}
use Rattle.wn_opt.specs.Compact.{AreRising, IsFlat, IsRead, IsReached}
use Rattle.wn_opt.specs.Compact as reached
use Rattle.wn_opt.specs.Cone.{IsPlace, HasPlace, place, or_zero, renamed}
use Rattle.wn_opt.specs.Marks.{AreNeeds, IsSet}
use Rattle.wn_opt.specs.Needed.{IsIn, IsNeeded, operands}
use Rattle.wn_opt.specs.Needed.{root, operand, next, write}
use Rattle.wn_opt.specs.Parts.{ArePlaced}
use Rattle.wn_opt.specs.Rebuilt.{AreNarrowed, HasOwnInputs, IsInputOf, IsNarrowed}
use Rattle.wn_opt.specs.Table.{IsOperator}
use Rattle.wn_opt.proofs.Before.{all_in, fits_in, operands_before}
use Rattle.wn_opt.proofs.Begun.{index_map}
use Rattle.wn_opt.proofs.Copying.{operator_fits, operator_width, place_is, renamed_on}
use Rattle.wn_opt.proofs.Framing.{map_more}
use Rattle.wn_opt.proofs.In.{in_none}
use Rattle.wn_opt.proofs.Marked.{marked_first, marked_none, marked_some, place_cases, place_or_none}
use Rattle.wn_opt.proofs.Same.{value_renamed}
use Rattle.wn_opt.proofs.Sharing.{flat_mems, no_input, no_reg, roots_placed, same_input}

-- ---- lists

pub all_push : {A : Type 0} (P : A → Type 0) (xs : List A) (x : A) → AllByRecursion P xs → P x
    → AllByRecursion P (xs ++ x ∷ [])
all_push P [] x h k = (k, tt)
all_push P (y ∷ ys) x h k = (h.0, all_push P ys x h.1 k)

all_weaker : {A : Type 0} (P Q : A → Type 0) (xs : List A) → ((x : A) → P x → Q x) → AllByRecursion P xs
    → AllByRecursion Q xs
all_weaker P Q [] f h = tt
all_weaker P Q (x ∷ xs) f h = (f x h.0, all_weaker P Q xs f h.1)

rising_push : (xs : List ℕ) (x : ℕ) → AreRising xs → AllByRecursion (λ y. y < x) xs → AreRising (xs ++ x ∷ [])
rising_push [] x h low = (tt, tt)
rising_push (y ∷ ys) x h low = (all_push (λ z. y < z) ys x h.0 low.0, rising_push ys x h.1 low.1)

-- rising numbers between two bounds are no more than there are between them
rising_few : (xs : List ℕ) (low high : ℕ) → low ≤ high → AreRising xs → AllByRecursion (λ y. low ≤ y) xs
    → AllByRecursion (λ y. y < high) xs → low + length xs ≤ high
rising_few [] low high le h above below = omega (arith, le)
rising_few (x ∷ xs) low high le h above below =
    let more = rising_few xs (suc x) high (omega (arith, below.0)) h.1
    (all_weaker (λ y. x < y) (λ y. suc x ≤ y) xs (λ y less. omega (arith, less)) h.0) below.1 in
    omega (arith, more, above.0)

pub rising_short : (xs : List ℕ) (high : ℕ) → AreRising xs → AllByRecursion (λ y. y < high) xs → length xs ≤ high
rising_short xs high h below =
    let all : AllByRecursion (λ y. 0 ≤ y) xs =
    all_weaker (λ y. y < high) (λ y. 0 ≤ y) xs (λ y less. omega arith) below in
    omega (arith, rising_few xs 0 high (omega arith) h all below)

get_map : {A B : Type 0} (f : A → B) (xs : List A) (k : ℕ) (x : A) → slice_get xs k ≡ Some x
    → slice_get (map f xs) k ≡ Some (f x)
get_map f [] k x e = absurd (true≢false (ap is_none e))
get_map f (y ∷ ys) zero x e = ap (λ z. Some (f z)) (same_Some y x e)
get_map f (y ∷ ys) (suc k) x e = get_map f ys k x e

pub in_map : {A B : Type 0} (f : A → B) (xs : List A) (x : A) → IsIn xs x → IsIn (map f xs) (f x)
in_map f xs x h = (h.0, get_map f xs h.0 x h.1)

-- ---- one node more

pub narrowed_first : (net part : Netlist) (marks : List Bool) (inputs : List ℕ) → part.regs ≡ [] → part.mems ≡ []
    → part.inputs ≡ [] → inputs ≡ [] → AreNarrowed net marks part inputs []
narrowed_first net part marks inputs regs mems none empty =
    let absent : (id at : ℕ) → IsPlace [] id at → ⊥ = λ id at p. true≢false (ap is_none p) in
    let All : List ℕ → Type 0 = λ xs. AllByRecursion (λ i. i < length net.inputs) xs in
    let Before : List ℕ → Type 0 = λ xs. AllByRecursion (λ i. i < 0) xs in
    record {
      flat = (regs, mems);
      places = marked_first marks;
      nodes = λ id at x p e op. absurd (absent id at p);
      input_nodes = λ id at i p e. absurd (absent id at p);
      widths = λ id at p. absurd (absent id at p);
      input_widths =
          ap (map (λ (x : Input). x.width)) none ∙ sym (ap (map (slice_index (shape_of net).inputs)) empty);
      there = subst All (sym empty) tt;
      before = subst Before (sym empty) tt;
      rising = subst AreRising (sym empty) tt;
      owners = λ j i e. absurd (true≢false (ap is_none (sym (ap (λ xs. slice_get xs j) empty) ∙ e)));
    }

-- an old operator stands at a new number
abbrev StandsFor : Netlist → Netlist → List (Option ℕ) → ℕ → ℕ → Type 0
StandsFor net b t id k = (x : Node) → slice_get net.nodes id ≡ Some x → IsOperator x
    → slice_get b.nodes k ≡ Some (renamed t x)

-- and an old input's node, for which one of the new inputs is
abbrev ReadsInput : Netlist → Netlist → List ℕ → ℕ → ℕ → Type 0
ReadsInput net b inputs id k = (i : ℕ) → slice_get net.nodes id ≡ Some (n.Input i) → IsInputOf b inputs k i

module _ (net a : Netlist) (marks : List Bool) (inputs : List ℕ) (t : List (Option ℕ)) (whole : IsNet net)
    (h : AreNarrowed net marks a inputs t) where
  length_place : (o : Option ℕ) → AllByRecursion (λ i. i < length (t ++ o ∷ [])) inputs
  length_place o =
      all_weaker (λ i. i < length t) (λ i. i < length (t ++ o ∷ [])) inputs
      (λ i less. omega (arith, less, length_more t o)) h.before

  pub narrowed_none : slice_get marks (length t) ≡ Some false → AreNarrowed net marks a inputs (t ++ None ∷ [])
  narrowed_none off = record {
    flat = h.flat;
    places = marked_none marks t h.places off;
    nodes = λ id at x p e op.
        let q = place_or_none t id at p in
        let less = get_less t id (Some at) q in
        h.nodes id at x q e op ∙ ap Some (sym (renamed_on net t None id x whole e (omega (arith, less))));
    input_nodes = λ id at i p e. h.input_nodes id at i (place_or_none t id at p) e;
    widths = λ id at p. h.widths id at (place_or_none t id at p);
    input_widths = h.input_widths;
    there = h.there;
    before = length_place None;
    rising = h.rising;
    owners = λ j i e.
        let o = h.owners j i e in (o.0, get_front t None i (Some o.0) o.1, o.2);
  }

  -- the old nodes stand under one place more
  old_node : (at : ℕ) (b : Netlist) → ((k : ℕ) (y : Node) → slice_get a.nodes k ≡ Some y → slice_get b.nodes k ≡ Some y)
      → (id k : ℕ) → IsPlace t id k → (x : Node) → slice_get net.nodes id ≡ Some x → IsOperator x
      → slice_get b.nodes k ≡ Some (renamed (t ++ Some at ∷ []) x)
  old_node at b front id k p x e op =
      let less = get_less t id (Some k) p in
      front k (renamed t x) (h.nodes id k x p e op)
      ∙ ap Some (sym (renamed_on net t (Some at) id x whole e (omega (arith, less))))

  old_input : (b : Netlist) (more : List ℕ) → ((k : ℕ) (y : Node) → slice_get a.nodes k ≡ Some y → slice_get b.nodes k ≡ Some y)
      → ((j i : ℕ) → slice_get inputs j ≡ Some i → slice_get more j ≡ Some i) → (id k : ℕ) → IsPlace t id k
      → (i : ℕ) → slice_get net.nodes id ≡ Some (n.Input i) → IsInputOf b more k i
  old_input b more front longer id k p i e =
      let o = h.input_nodes id k i p e in
      record { input = o.input; node = front k (n.Input o.input) o.node; is = longer o.input i o.is }

  module _ (x : Node) (on : IsSet marks (length t)) (at : slice_get net.nodes (length t) ≡ Some x) where
    -- an operator behind the others
    module _ (flat : IsFlat net) (placed : ArePlaced t (operands x)) (op : IsOperator x) where
      pub narrowed_fits : IsFitting (shape_of a) (widths_of a) (renamed t x)
      narrowed_fits = operator_fits net a t (length t) x whole (flat_mems net a flat h.flat) h.widths placed at op

      abbrev last : ℕ
      last = length a.nodes

      added : AreNarrowed net marks (with_node a (renamed t x)) inputs (t ++ Some last ∷ [])
      added =
          let y = renamed t x in
          let b = with_node a y in
          let built = with_node_builds a y in
          let more = with_node_has_more a y in
          let there : last < length (a.nodes ++ y ∷ []) = omega (arith, length_more a.nodes y) in
          let front : (k : ℕ) (z : Node) → slice_get a.nodes k ≡ Some z → slice_get b.nodes k ≡ Some z =
          λ k z e. get_front a.nodes y k z e in
          let Node_is : ℕ → ℕ → Type 0 = StandsFor net b (t ++ Some last ∷ []) in
          let Input_is : ℕ → ℕ → Type 0 = ReadsInput net b inputs in
          let new_node : Node_is (length t) last = λ z e q.
          let same : x ≡ z = same_Some x z (sym at ∙ e) in
          get_last a.nodes y ∙ ap (λ v. Some (renamed t v)) same
          ∙ ap Some (sym (renamed_on net t (Some last) (length t) z whole e (omega arith))) in
          let new_input : Input_is (length t) last = λ i e.
          absurd (no_input x i op (same_Some x (n.Input i) (sym at ∙ e))) in
          let old_nodes : (id k : ℕ) → IsPlace t id k → Node_is id k = old_node last b front in
          let old_inputs : (id k : ℕ) → IsPlace t id k → Input_is id k = old_input b inputs front (λ j i e. e) in
          record {
            flat = h.flat;
            places = marked_some marks t last h.places on;
            nodes = λ id k z p e q. place_cases Node_is t last old_nodes new_node id k p z e q;
            input_nodes = λ id k i p e. place_cases Input_is t last old_inputs new_input id k p i e;
            widths = place_cases (λ id k. IsNodeOf b (width_at net id) k) t last
                (λ id k p.
                let o = h.widths id k p in (omega (arith, o.0, more.longer), more.widths k o.0 ∙ o.1)) (
                  there,
                  built.width
                      ∙ operator_width net a t (length t) x whole (flat_mems net a flat h.flat) h.widths placed at op,
                );
            input_widths = h.input_widths;
            there = h.there;
            before = length_place (Some last);
            rising = h.rising;
            owners = λ j i e.
                let o = h.owners j i e in
                (o.0, get_front t (Some last) i (Some o.0) o.1, front o.0 (n.Input j) o.2);
          }

      pub narrowed_operator : (b : Netlist) (id : ℕ) → id ≡ length a.nodes → b ≡ with_node a (renamed t x)
          → AreNarrowed net marks b inputs (t ++ Some id ∷ [])
      narrowed_operator b id is e =
          let Is : Netlist → Type 0 = λ m. AreNarrowed net marks m inputs (t ++ Some last ∷ []) in
          subst (λ k. AreNarrowed net marks b inputs (t ++ Some k ∷ [])) (sym is) (subst Is (sym e) added)

  -- ---- an input

  module _ (m : ℕ) (on : IsSet marks (length t)) (own : HasOwnInputs net)
      (at : slice_get net.nodes (length t) ≡ Some (n.Input m)) where
    is_place : length t ≡ m
    is_place = own (length t) m at

    pub input_there : m < length net.inputs
    input_there =
        omega (
          arith,
          fits_in net (length t) (n.Input m) whole at,
          length-map net.inputs (λ (y : Input). y.width),
        )

    counted : length a.inputs ≡ length inputs
    counted =
        omega (
          arith,
          ap length h.input_widths,
          length-map a.inputs (λ (y : Input). y.width),
          length-map inputs (slice_index (shape_of net).inputs),
        )

    pub narrowed_room : length a.inputs < 2 ^ 32 - 1
    narrowed_room =
        let short = rising_short inputs (length t) h.rising h.before in
        omega (arith, short, counted, is_place, input_there, whole.few_inputs)

    pub narrowed_wide : (y : Input) → slice_get net.inputs m ≡ Some y → IsWidth y.width
    narrowed_wide y e = all_in (λ (i : Input). IsWidth i.width) net.inputs y whole.inputs (m, e)

    pub narrowed_input : (b : Netlist) (y : Input) (id : ℕ) (more : List ℕ) → slice_get net.inputs m ≡ Some y
        → BuildsInput a b y id → more ≡ inputs ++ m ∷ [] → AreNarrowed net marks b more (t ++ Some id ∷ [])
    narrowed_input b y id more e built is =
        let Is : List ℕ → Type 0 = λ xs. AreNarrowed net marks b xs (t ++ Some id ∷ []) in
        subst Is (sym is) (record {
          flat = (built.regs ∙ h.flat.0, built.mems ∙ h.flat.1);
          places = marked_some marks t id h.places on;
          nodes = λ i k z p f q. place_cases (StandsFor net b (t ++ Some id ∷ [])) t id (old_node id b front)
              new_node i k p z f q;
          input_nodes = λ i k v p f. place_cases (ReadsInput net b (inputs ++ m ∷ [])) t id old_inputs
              new_input i k p v f;
          widths = place_cases (λ i k. IsNodeOf b (width_at net i) k) t id
              (λ i k p. grown_node a b (width_at net i) k built.grows (h.widths i k p)) new_width;
          input_widths =
              ap (map (λ (v : Input). v.width)) built.inputs ∙ map_more (λ (v : Input). v.width) a.inputs y
              ∙ (λ i. h.input_widths i ++ wide i ∷ []) ∙ sym (map_more f inputs m);
          there = all_push (λ i. i < length net.inputs) inputs m h.there input_there;
          before = all_push (λ i. i < length (t ++ Some id ∷ [])) inputs m (length_place (Some id))
              (omega (arith, is_place, length_more t (Some id)));
          rising = rising_push inputs m h.rising
              (all_weaker (λ i. i < length t) (λ i. i < m) inputs (λ i less. omega (arith, less, is_place)) h.before);
          owners = λ j i q. owner j i (get_cases inputs m j i q);
        })
      where
        f : ℕ → ℕ
        f = slice_index (shape_of net).inputs

        wide : y.width ≡ f m
        wide = sym (index_map (λ (v : Input). v.width) net.inputs m y e)

        front : (k : ℕ) (z : Node) → slice_get a.nodes k ≡ Some z → slice_get b.nodes k ≡ Some z
        front k z q =
            ap (λ ns. slice_get ns k) built.nodes ∙ get_front a.nodes (n.Input (length a.inputs)) k z q

        last_node : slice_get b.nodes id ≡ Some (n.Input (length a.inputs))
        last_node =
            ap (slice_get b.nodes) built.last ∙ ap (λ ns. slice_get ns (length a.nodes)) built.nodes
            ∙ get_last a.nodes (n.Input (length a.inputs))

        new_node : StandsFor net b (t ++ Some id ∷ []) (length t) id
        new_node z q op = absurd (no_input z m op (same_Some z (n.Input m) (sym q ∙ at)))

        old_inputs : (i k : ℕ) → IsPlace t i k → ReadsInput net b (inputs ++ m ∷ []) i k
        old_inputs = old_input b (inputs ++ m ∷ []) front (λ j i q. get_front inputs m j i q)

        new_input : ReadsInput net b (inputs ++ m ∷ []) (length t) id
        new_input v q = record {
          input = length a.inputs;
          node = last_node;
          is = ap (slice_get (inputs ++ m ∷ [])) counted ∙ get_last inputs m
              ∙ ap Some (same_input m v (same_Some (n.Input m) (n.Input v) (sym at ∙ q)));
        }

        new_width : IsNodeOf b (width_at net (length t)) id
        new_width =
            let own_width = built_input_node a b y id built in
            (own_width.0, own_width.1 ∙ wide ∙ sym (each_width net (length t) (n.Input m) whole at))

        owner : (j i : ℕ) → (slice_get inputs j ≡ Some i) ⊎ ((j ≡ length inputs) × (m ≡ i))
            → (k : ℕ) × IsPlace (t ++ Some id ∷ []) i k × (slice_get b.nodes k ≡ Some (n.Input j))
        owner j i (inl q) =
            let o = h.owners j i q in
            (o.0, get_front t (Some id) i (Some o.0) o.1, front o.0 (n.Input j) o.2)
        owner j i (inr q) = (
          id,
          ap (slice_get (t ++ Some id ∷ [])) (sym q.1 ∙ sym is_place) ∙ get_last t (Some id),
          last_node ∙ ap (λ k. Some (n.Input k)) (counted ∙ sym q.0),
        )

-- ---- all nodes

operands_renamed : (t : List (Option ℕ)) (x : Node) → operands (renamed t x) ≡ map (place t) (operands x)
operands_renamed t (n.Konst word) = refl
operands_renamed t (n.Input i) = refl
operands_renamed t (n.Reg i) = refl
operands_renamed t (n.Read m a) = refl
operands_renamed t (n.Not a) = refl
operands_renamed t (n.And a b) = refl
operands_renamed t (n.Or a b) = refl
operands_renamed t (n.Xor a b) = refl
operands_renamed t (n.Add a b) = refl
operands_renamed t (n.Sub a b) = refl
operands_renamed t (n.Mul a b) = refl
operands_renamed t (n.Eq a b) = refl
operands_renamed t (n.Ult a b) = refl
operands_renamed t (n.Slt a b) = refl
operands_renamed t (n.Shl a b) = refl
operands_renamed t (n.Lshr a b) = refl
operands_renamed t (n.Ashr a b) = refl
operands_renamed t (n.Concat a b) = refl
operands_renamed t (n.Mux c a b) = refl
operands_renamed t (n.Slice a at w) = refl
operands_renamed t (n.Zext a w) = refl
operands_renamed t (n.Sext a w) = refl

-- what reads something is an operator
reads_operator : (x : Node) (a : ℕ) → IsIn (operands x) a → IsOperator x
reads_operator (n.Input i) a h = in_none (λ b. IsOperator (n.Input i)) a h
reads_operator (n.Reg i) a h = in_none (λ b. IsOperator (n.Reg i)) a h
reads_operator x a h = refl

module _ (net part : Netlist) (roots : List ℕ) (m : Marks) (inputs : List ℕ) (t : List (Option ℕ)) (whole : IsNet net)
    (own : IsNet part) (flat : IsFlat net) (needs : AreNeeds net roots m)
    (h : AreNarrowed net m.nodes.items part inputs t) (each : length t ≡ length net.nodes) where
  at_need : (id : ℕ) → IsNeeded net roots id → HasPlace t id
  at_need id need =
      let on = (needs.nodes id).1 need in
      let less = get_less m.nodes.items id true on in
      h.places.placed id (omega (arith, less, needs.each_node, each)) on

  need_at : (id at : ℕ) → IsPlace t id at → IsNeeded net roots id
  need_at id at p = (needs.nodes id).0 (h.places.marked id (at, p))

  -- ---- values

  -- a node has its value where those below it have theirs
  value_step : (g k : Given) → k.inputs ≡ map (slice_index g.inputs) inputs → (id at : ℕ) → IsPlace t id at
      → ((a b : ℕ) → a < id → IsPlace t a b → value_at part k b ≡ value_at net g a)
      → value_at part k at ≡ value_at net g id
  unfolding value_at width_at
  value_step g k same id at p below =
      let less = get_less t id (Some at) p in
      let found = get_some net.nodes id (omega (arith, less, each)) in
      by found.0 found.1
    where
      no_read : (i a : ℕ) → slice_get net.nodes id ≡ Some (n.Read i a) → ⊥
      no_read i a f =
          omega (arith, (fits_in net id (n.Read i a) whole f).0, ap length (ap (map (λ (x : Mem). x.width)) flat.1))

      operator : (x : Node) → slice_get net.nodes id ≡ Some x → IsOperator x → value_at part k at ≡ value_at net g id
      operator x e op =
          each_value part k at (renamed t x) own (h.nodes id at x p e op)
          ∙ value_renamed g k t (widths_of net) (values_of net g) (widths_of part) (values_of part k) x
          (record {
            input = λ i is. absurd (no_input x i op is);
            reg = λ i is. absurd (no_reg net id i whole flat (e ∙ ap Some is));
            mem = λ i a is. absurd (no_read i a (e ∙ ap Some is));
          })
          (λ a i.
          let q = at_need a (operand id a x (need_at id at p) e i) in
          let is : place t a ≡ q.0 = ap or_zero q.1 in
          record {
            width = ap (slice_index (widths_of part)) is ∙ (h.widths a q.0 q.1).1;
            value = ap (slice_index (values_of part k)) is
                ∙ below a q.0 (operands_before net id x whole e a i) q.1;
          })
          ∙ sym (each_value net g id x whole e)

      by : (x : Node) → slice_get net.nodes id ≡ Some x → value_at part k at ≡ value_at net g id
      by (n.Input i) e =
          let o = h.input_nodes id at i p e in
          each_value part k at (n.Input o.input) own o.node
          ∙ ap (λ xs. slice_index xs o.input) same
          ∙ index_map (slice_index g.inputs) inputs o.input i o.is
          ∙ sym (each_value net g id (n.Input i) whole e)
      by (n.Reg i) e = absurd (no_reg net id i whole flat e)
      by x e = operator x e refl

  value_below : (g k : Given) → k.inputs ≡ map (slice_index g.inputs) inputs → (bound id at : ℕ) → id < bound
      → IsPlace t id at → value_at part k at ≡ value_at net g id
  value_below g k same zero id at low p = absurd (omega (arith, low))
  value_below g k same (suc bound) id at low p =
      value_step g k same id at p (λ a b less q. value_below g k same bound a b (omega (arith, less, low)) q)

  -- ---- what is read

  module _ (ids : List ℕ) (heads : (id at : ℕ) → IsIn roots id → IsPlace t id at → IsIn ids at) where
    reach : (id : ℕ) → IsNeeded net roots id → (at : ℕ) → IsPlace t id at → IsReached part.nodes ids at
    reach k (root id i) at p = reached.root at (heads id at i p)
    reach k (operand user id x up e i) at p =
        let q = at_need user up in
        let node = h.nodes user q.0 x q.1 e (reads_operator x id i) in
        let In : List ℕ → Type 0 = λ xs. IsIn xs at in
        let moved : IsIn (map (place t) (operands x)) at =
        subst (λ v. IsIn (map (place t) (operands x)) v) (place_is t id at p)
        (in_map (place t) (operands x) id i) in
        reached.operand q.0 at (renamed t x) (reach user up q.0 q.1) node (subst In (sym (operands_renamed t x)) moved)
    reach k (next user i r up e f) at p =
        absurd (true≢false (ap is_none (sym (ap (λ rs. slice_get rs i) flat.0) ∙ f)))
    reach k (write user v a id x w up e f i j) at p =
        absurd (true≢false (ap is_none (sym (ap (λ ms. slice_get ms v) flat.1) ∙ f)))

    all_read : (j : ℕ) → j < length inputs → IsRead part.nodes ids j
    all_read j less =
        let i = get_some inputs j less in
        let o = h.owners j i.0 i.1 in
        (o.0, reach i.0 (need_at i.0 o.0 o.1) o.0 o.1, o.2)

  pub is_narrowed : IsNarrowed net roots part inputs t
  is_narrowed = record {
    flat = h.flat;
    placed = roots_placed net roots m t needs each (λ id less on. h.places.placed id less on);
    widths = h.widths;
    input_widths = h.input_widths;
    there = h.there;
    rising = h.rising;
    values = λ g k same id at p. value_below g k same (suc id) id at (omega arith) p;
    read = all_read;
  }
