-- One start more, and the numbers of the cells behind all of them.
use Rattle.std.specs.Prelude.{◌≡◌, refl, ℕ, zero, suc, ◌+◌, ◌<◌, List, [], ◌∷◌, ◌++◌, length, map}
use Rattle.std.specs.Prelude.{slice_index}
use Rattle.std.proofs.Common.{ap, sym, ◌∙◌, arith, subst, append_assoc, length-append}
use Rattle.std.proofs.lemmas.List.{append-nil, length-map}
use Rattle.vl_size.specs.declared.decl.Decl.{Decl}
use Rattle.vl_size.specs.Size.{Values}
use Rattle.vl_mean.specs.Cells.{cells as names_of}
use Rattle.vl_mean.specs.declared.driver.Driver.{Driver}
use Rattle.vl_mean.specs.declared.driver.DriverKind.{DriverKind}
use Rattle.vl_mean.specs.declared.driver.DriverKind.TheVariants as k
use Rattle.vl_mean.specs.declared.driver.Start.{Start}
use Rattle.vl_mean.specs.Execution.{State, begun}
use Rattle.vl_mean.specs.FlatLaw.{flat_scopes}
use Rattle.vl_mean.specs.FlatParts.{driver_part, parts_of, start_part}
use Rattle.vl_mean.specs.Parts.{Part, declares}
use Rattle.vl_mean.specs.Runs.{initial_writes}
use Rattle.vl_mean.specs.Scopes.{no_values}
use Rattle.vl_mean.specs.Targets.{Write, put_all}
use Rattle.wn_net.specs.declared.parts.Input.{Input}
use Rattle.wn_net.specs.declared.parts.Mem.{Mem}
use Rattle.wn_net.specs.declared.parts.Reg.{Reg}
use Rattle.wn_net.specs.Value.{Given}
use Rattle.wn_net.specs.Net.{Netlist, AreNodes, value_at}
use Rattle.wn_net.specs.Given.{AreMemsOf, AreNumbersOf, IsGiven}
use Rattle.vl_flow_cells.specs.Numbered.{all_cells}
use Rattle.vl_lower_assign.specs.Frames.{AreCellsOf, Cells, IsFrame, cell_widths}
use Rattle.vl_lower_assign.proofs.Behind.{cell_there, steps_as, steps_none, steps_then}
use Rattle.vl_lower_assign.proofs.Writing.{puts_append}
use Rattle.vl_lower_stmt.specs.First.{AreFirst, IsZeroFrame, Starts, all_written, nothing_given, written_by}
use Rattle.vl_lower_stmt.proofs.ZeroCells.{stands_for_zeros}

module _ (ds : List Decl) where
  -- ---- starts one after the other

  written_more : (xs : List Start) (x : Start) (v : Values)
      → all_written ds (xs ++ x ∷ []) v ≡ all_written ds xs v ++ written_by ds x v
  written_more [] x v = append-nil (written_by ds x v)
  written_more (y ∷ ys) x v =
      ap (λ ws. written_by ds y v ++ ws) (written_more ys x v)
      ∙ sym (append_assoc (written_by ds y v) (all_written ds ys v) (written_by ds x v))

  pub no_starts : (net : Netlist) (f : Cells) → IsFrame net ds f → Starts ds net net f f (all_written ds [])
  no_starts net f own =
      steps_as ds net net f f (λ g t. t) (λ g t. record t { pending = t.pending ++ [] }) (λ g t w. w) (λ g t w. w)
      (steps_none ds net f own)
      (λ g t w given has. ap (λ ws. record t { pending = ws }) (sym (append-nil t.pending)))
      (λ g t w given has. refl)

  pub one_start_more : (a b c : Netlist) (f h k : Cells) (xs more : List Start) (x : Start)
      → Starts ds a b f h (all_written ds xs) → Starts ds b c h k (written_by ds x) → more ≡ xs ++ x ∷ []
      → Starts ds a c f k (all_written ds more)
  one_start_more a b c f h k xs more x were one e =
      let waits : (Values → List Write) → Given → State → State =
      λ ws g t. record t { pending = t.pending ++ ws t.now } in
      let puts : (Values → List Write) → Given → State → Values → Values = λ ws g t w. put_all (ws t.now) w in
      let all : (v : Values) → all_written ds more v ≡ all_written ds xs v ++ written_by ds x v =
      λ v. ap (λ ys. all_written ds ys v) e ∙ written_more xs x v in
      steps_as ds a c f k
      (λ g t. waits (written_by ds x) g (waits (all_written ds xs) g t)) (waits (all_written ds more))
      (λ g t w. puts (written_by ds x) g (waits (all_written ds xs) g t) (puts (all_written ds xs) g t w))
      (puts (all_written ds more))
      (steps_then ds a b c f h k (waits (all_written ds xs)) (waits (written_by ds x)) (puts (all_written ds xs))
      (puts (written_by ds x)) were one)
      (λ g t w given has.
      ap (λ ws. record t { pending = ws })
      (append_assoc t.pending (all_written ds xs t.now) (written_by ds x t.now)
      ∙ ap (λ ws. t.pending ++ ws) (sym (all t.now))))
      (λ g t w given has.
      sym (puts_append (all_written ds xs t.now) (written_by ds x t.now) w)
      ∙ ap (λ ws. put_all ws w) (sym (all t.now)))

  -- ---- the writes at first are those of the starts

  of_starts : (xs : List Start) → initial_writes (map (start_part (flat_scopes ds)) xs) ≡ all_written ds xs no_values
  of_starts [] = refl
  of_starts (x ∷ xs) = ap (λ ws. written_by ds x no_values ++ ws) (of_starts xs)

  behind_drivers : (drivers : List Driver) (qs : List Part)
      → initial_writes (map (λ x. driver_part (flat_scopes ds) x.what) drivers ++ qs) ≡ initial_writes qs
  behind_drivers [] qs = refl
  behind_drivers (x ∷ xs) qs = by x.what (behind_drivers xs qs)
    where
      by : (y : DriverKind)
          → initial_writes (map (λ z. driver_part (flat_scopes ds) z.what) xs ++ qs) ≡ initial_writes qs
          → initial_writes
          (driver_part (flat_scopes ds) y ∷ (map (λ z. driver_part (flat_scopes ds) z.what) xs ++ qs))
          ≡ initial_writes qs
      by (k.Assign l e) h = h
      by (k.Comb s) h = h
      by (k.Clocked s) h = h

  behind_decls : (es : List Decl) (qs : List Part)
      → initial_writes (map (λ d. declares d) es ++ qs) ≡ initial_writes qs
  behind_decls [] qs = refl
  behind_decls (d ∷ es) qs = behind_decls es qs

  of_parts : (drivers : List Driver) (xs : List Start)
      → initial_writes (parts_of ds drivers xs) ≡ all_written ds xs no_values
  of_parts drivers xs =
      let decls = map (λ d. declares d) ds in
      let blocks = map (λ x. driver_part (flat_scopes ds) x.what) drivers in
      let starts = map (start_part (flat_scopes ds)) xs in
      ap initial_writes (append_assoc decls blocks starts) ∙ behind_decls ds (blocks ++ starts)
      ∙ behind_drivers drivers starts ∙ of_starts xs

  -- ---- the numbers

  map_at : (f : ℕ → ℕ) (xs : List ℕ) (i : ℕ) → i < length xs → slice_index (map f xs) i ≡ f (slice_index xs i)
  map_at f [] i less = absurd (omega (arith, less))
  map_at f (x ∷ xs) zero less = refl
  map_at f (x ∷ xs) (suc i) less = let before : i < length xs = omega (arith, less) in map_at f xs i before

  map_length : (f : ℕ → ℕ) (xs : List ℕ) → length (map f xs) ≡ length xs
  map_length f [] = refl
  map_length f (x ∷ xs) = ap suc (map_length f xs)

  nodes_of : (net : Netlist) (ids : List ℕ) → ((i : ℕ) → i < length ids → slice_index ids i < length net.nodes)
      → AreNodes net ids
  nodes_of net [] h = tt
  nodes_of net (id ∷ ids) h = (h 0 (omega arith), nodes_of net ids (λ i less. h (suc i) (omega (arith, less))))

  pub cells_there : (net : Netlist) (ids : List ℕ) → AreCellsOf net ds ids → AreNodes net ids
  cells_there net ids h = nodes_of net ids (λ i less. (h.node i less).0)

  widths_count : (es : List Decl) → length (cell_widths es) ≡ length (all_cells es)
  widths_count [] = refl
  widths_count (d ∷ es) =
      length-append (map (λ n. d.width) (names_of d)) (cell_widths es)
      ∙ (λ i. length-map (names_of d) (λ (n : List ℕ). d.width) i + widths_count es i)
      ∙ sym (length-append (names_of d) (all_cells es))

  pub all_first : (a net : Netlist) (f k : Cells) (xs : List Start) (numbers : List ℕ) → IsZeroFrame a ds f
      → IsGiven a nothing_given → Starts ds a net f k (all_written ds xs)
      → numbers ≡ map (value_at net nothing_given) k.next → AreFirst ds xs numbers
  all_first a net f k xs numbers zeros given s e = record {
    each = ap length e ∙ map_length (value_at net nothing_given) k.next ∙ s.frame.next.each ∙ widths_count ds;
    same = λ drivers c n at.
        let r = s.comes nothing_given (begun no_values) no_values given (stands_for_zeros a ds nothing_given f zeros) in
        let less = cell_there net ds k.next c n s.frame.next at in
        ap (λ ys. slice_index ys c) e ∙ map_at (value_at net nothing_given) k.next c less ∙ sym (r.next c n at)
        ∙ ap (λ ws. put_all ws no_values n) (sym (of_parts drivers xs));
  }

-- ---- a net without inputs, registers and memories

none_is : AreNumbersOf [] []
none_is = record { each = refl; below = λ i. omega arith }

pub nothing_is : (net : Netlist) → net.inputs ≡ [] → net.regs ≡ [] → net.mems ≡ [] → IsGiven net nothing_given
nothing_is net inputs regs mems = record {
  inputs = subst (λ (xs : List Input). AreNumbersOf (map (λ (i : Input). i.width) xs) []) (sym inputs) none_is;
  state = record {
    regs = subst (λ (xs : List Reg). AreNumbersOf (map (λ (r : Reg). r.width) xs) []) (sym regs) none_is;
    mems = subst (λ (xs : List Mem). AreMemsOf xs []) (sym mems) tt;
  };
}
