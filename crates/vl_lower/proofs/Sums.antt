-- What is added one after the other.
use Rattle.std.specs.Prelude.{◌≡◌, refl, ℕ, ◌+◌, [], ◌++◌, length, map}
use Rattle.std.proofs.Common.{ap, append-nil, append_assoc, subst, sym, ◌∙◌}
use Rattle.std.proofs.lemmas.List.{length-append, length-map, map-append}
use Rattle.wn_net.specs.declared.parts.Input.{Input}
use Rattle.wn_net.specs.declared.parts.Mem.{Mem}
use Rattle.wn_net.specs.declared.parts.Reg.{Reg}
use Rattle.wn_net.specs.Net.{IsNodeOf, value_at}
use Rattle.wn_net.proofs.Begun.{grows_none}
use Rattle.wn_net.proofs.Laws.{grows_on}
use Rattle.vl_lower_cell_laws.specs.Keeps.{Kept}
use Rattle.vl_lower_cell_laws.specs.Listing.{Stored, input_spot, register_spot}
use Rattle.vl_lower.specs.declared.sources.Sources.{Sources}
use Rattle.vl_lower.specs.Added.{Added, Adds, both, nothing}
use Rattle.vl_lower.proofs.Lists.{chained, chained_map, each_both, each_many, many_of, nodes_stay, values_stay}

pub adds_none : (x : Sources) → Adds x x nothing
adds_none x = record {
  inputs = sym (append-nil x.net.inputs);
  input_spots = sym (append-nil x.inputs);
  reg_widths = sym (append-nil (map (λ (r : Reg). r.width) x.net.regs));
  reg_starts = sym (append-nil (map (λ (r : Reg). r.init) x.net.regs));
  reg_spots = sym (append-nil x.regs);
  register_cells = sym (append-nil x.register_cells);
  mem_widths = sym (append-nil (map (λ (m : Mem). m.width) x.net.mems));
  mem_words = sym (append-nil (map (λ (m : Mem). m.words) x.net.mems));
  mem_starts = sym (append-nil (map (λ (m : Mem). m.init) x.net.mems));
  mem_names = sym (append-nil x.mems);
  memory_cells = sym (append-nil x.memory_cells);
  assumes = refl;
  unwritten = λ h. h;
  grows = grows_none x.net;
  ids = [];
  cells = sym (append-nil x.cells);
  nodes = tt;
  numbers = λ g. refl;
}

pub adds_both : (a b c : Sources) (x y : Added) → Adds a b x → Adds b c y → Adds a c (both x y)
adds_both a b c x y h k = record {
  inputs = chained_map (λ (i : Input × ℕ). i.0) _ _ _ x.inputs y.inputs h.inputs k.inputs;
  input_spots = chained_map input_spot _ _ _ x.inputs y.inputs h.input_spots k.input_spots;
  reg_widths = chained_map (λ (r : Kept × ℕ). r.0.width) _ _ _ x.regs y.regs h.reg_widths k.reg_widths;
  reg_starts = chained_map (λ (r : Kept × ℕ). r.0.init) _ _ _ x.regs y.regs h.reg_starts k.reg_starts;
  reg_spots = chained_map register_spot _ _ _ x.regs y.regs h.reg_spots k.reg_spots;
  register_cells = chained _ _ _ x.register_cells y.register_cells h.register_cells k.register_cells;
  mem_widths = chained_map (λ (m : Stored × ℕ). m.0.width) _ _ _ x.mems y.mems h.mem_widths k.mem_widths;
  mem_words = chained_map (λ (m : Stored × ℕ). m.0.words) _ _ _ x.mems y.mems h.mem_words k.mem_words;
  mem_starts = chained_map (λ (m : Stored × ℕ). m.0.starts) _ _ _ x.mems y.mems h.mem_starts k.mem_starts;
  mem_names = chained_map (λ (m : Stored × ℕ). m.1) _ _ _ x.mems y.mems h.mem_names k.mem_names;
  memory_cells = chained _ _ _ x.memory_cells y.memory_cells h.memory_cells k.memory_cells;
  assumes = k.assumes ∙ h.assumes;
  unwritten = λ z. k.unwritten (h.unwritten z);
  grows = grows_on a.net b.net c.net h.grows k.grows;
  ids = h.ids ++ k.ids;
  cells = chained _ _ _ h.ids k.ids h.cells k.cells;
  nodes = each_both (IsNodeOf c.net) x.widths y.widths h.ids k.ids
      (nodes_stay b.net c.net x.widths h.ids k.grows h.nodes) k.nodes;
  numbers = λ g.
      map-append (value_at c.net g) h.ids k.ids
      ∙ (λ i. (values_stay b.net c.net g x.widths h.ids k.grows h.nodes ∙ h.numbers g) i ++ k.numbers g i);
}

-- ---- so far

-- some of a whole is added, and this is left of it
pub record SoFar (old new : Sources) (rest whole : Added) : Type 0 where
  pub sum : Added
  pub adds : Adds old new sum
  pub left : both sum rest ≡ whole

pub so_far_none : (x : Sources) (whole : Added) → SoFar x x whole whole
so_far_none x whole = record { sum = nothing; adds = adds_none x; left = refl }

pub so_far_more : (old mid new : Sources) (y rest whole : Added) → SoFar old mid (both y rest) whole → Adds mid new y
    → SoFar old new rest whole
so_far_more old mid new y rest whole s h =
    let x = s.sum in
    record {
      sum = both x y;
      adds = adds_both old mid new x y s.adds h;
      left = (λ i. record {
        inputs = append_assoc x.inputs y.inputs rest.inputs i;
        regs = append_assoc x.regs y.regs rest.regs i;
        register_cells = append_assoc x.register_cells y.register_cells rest.register_cells i;
        mems = append_assoc x.mems y.mems rest.mems i;
        memory_cells = append_assoc x.memory_cells y.memory_cells rest.memory_cells i;
        widths = append_assoc x.widths y.widths rest.widths i;
        numbers = λ g. append_assoc (x.numbers g) (y.numbers g) (rest.numbers g) i;
      }) ∙ s.left;
    }

pub so_far_all : (old new : Sources) (whole : Added) → SoFar old new nothing whole → Adds old new whole
so_far_all old new whole s =
    let x = s.sum in
    let none : x ≡ both x nothing = λ i. record {
      inputs = sym (append-nil x.inputs) i;
      regs = sym (append-nil x.regs) i;
      register_cells = sym (append-nil x.register_cells) i;
      mems = sym (append-nil x.mems) i;
      memory_cells = sym (append-nil x.memory_cells) i;
      widths = sym (append-nil x.widths) i;
      numbers = λ g. sym (append-nil (x.numbers g)) i;
    } in
    subst (Adds old new) (none ∙ s.left) s.adds

-- ---- how many

module _ (old new : Sources) (x : Added) (h : Adds old new x) where
  pub many_inputs : length new.net.inputs ≡ length old.net.inputs + length x.inputs
  many_inputs =
      ap length h.inputs ∙ length-append old.net.inputs (map (λ (i : Input × ℕ). i.0) x.inputs)
      ∙ ap (λ n. length old.net.inputs + n) (length-map x.inputs (λ (i : Input × ℕ). i.0))

  pub many_regs : length new.net.regs ≡ length old.net.regs + length x.regs
  many_regs =
      many_of (λ (r : Reg). r.width) (λ (k : Kept × ℕ). k.0.width) old.net.regs new.net.regs x.regs h.reg_widths

  pub many_mems : length new.net.mems ≡ length old.net.mems + length x.mems
  many_mems =
      many_of (λ (m : Mem). m.width) (λ (s : Stored × ℕ). s.0.width) old.net.mems new.net.mems x.mems h.mem_widths

  pub many_cells : length new.cells ≡ length old.cells + length x.widths
  many_cells =
      ap length h.cells ∙ length-append old.cells h.ids
      ∙ ap (λ n. length old.cells + n) (each_many (IsNodeOf new.net) x.widths h.ids h.nodes)
