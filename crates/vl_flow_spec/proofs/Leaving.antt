-- A map meets an assignment or a block exactly where settling it changes nothing that it drives.
use Rattle.std.specs.Prelude.{◌≡◌, refl, ℕ, ◌+◌, ◌*◌, ◌/◌, ◌%◌, ◌^◌, ◌<◌, ◌≤◌, ◌==◌, List, [], ◌∷◌, ◌++◌}
use Rattle.std.specs.Prelude.{max, length, Bool, true, false, ◌&&◌, bytes_eq, Option, Some, None}
use Rattle.std.specs.Prelude.{if◌then◌else◌}
use Rattle.std.proofs.Common.{ap, sym, ◌∙◌, arith, subst}
use Rattle.std.proofs.Math.Nat.{mul-le-mul_right}
use Rattle.std.proofs.lemmas.Nat.{shr_split, div-add-mod'}
use Rattle.std.proofs.lemmas.Nat.Bits.{same_from_bits_below}
use Rattle.std.proofs.lemmas.Bool.Decides.{nat_tests}
use Rattle.std.proofs.lemmas.Slice.Eq.{bytes_eq-Decides}
use Rattle.vl_tree.specs.Expr.{Expr}
use Rattle.vl_tree.specs.Lval.{Lval, Lvals, named, joined, no_lvals, more_lvals}
use Rattle.vl_tree.specs.Stmt.{Stmt}
use Rattle.vl_size.specs.declared.decl.Decl.{Decl}
use Rattle.vl_size.specs.Size.{Values}
use Rattle.vl_size.specs.Table.{declared_as}
use Rattle.vl_mean.specs.declared.driver.DriverKind.TheVariants as k
use Rattle.vl_mean.specs.Execution.{begun, exec, assigns, assigned}
use Rattle.vl_mean.specs.FlatLaw.{flat_scopes, IsAssigned, IsTarget, AreTargets, IsBlock, is_net}
use Rattle.vl_mean.specs.Runs.{Each, Meets}
use Rattle.vl_mean.specs.Scopes.{is_clock_class, no_values, operand_in}
use Rattle.vl_mean.specs.Targets.{Spot, Write, bit_of, with_bit, put, put_all, written, has_spot, spots, all_spots}
use Rattle.vl_flow_spec.specs.Drivers.{driven_by, AreOnce}
use Rattle.vl_flow_spec.specs.Paths.{is_blocking, sure}
use Rattle.vl_flow_spec.specs.Reads.{Covers, IsCellOf, AreInRange}
use Rattle.vl_flow_spec.specs.Settle.{IsBitOf, driven, AreOneOn}
use Rattle.vl_flow_spec.proofs.Bools.{or_left, and_both}
use Rattle.vl_flow_spec.proofs.Cells.{HaveOwnCells}
use Rattle.vl_flow_spec.proofs.Execs.{net_counted}
use Rattle.vl_flow_spec.proofs.Flat.{flat_name, flat_fixed}
use Rattle.vl_flow_spec.proofs.Puts.{bit_here}
use Rattle.vl_flow_spec.proofs.Spots.{spot_behind}
use Rattle.vl_flow_spec.proofs.Stages.{comb_is}
use Rattle.vl_flow_spec.proofs.Stays.{exec_stays}
use Rattle.vl_flow_spec.proofs.Targets.{Marks, marks, name_fixed}
use Rattle.vl_flow_spec.proofs.Writes.{written_to, written_small, puts_stay}
use Rattle.vl_mean_flat.proofs.EachOf.{each_map}

-- ---- writes that a map meets change nothing

same_bit : (x i : ℕ) → with_bit x i (bit_of x i) ≡ x
same_bit x i =
    let q = x / 2 ^ i in
    let h : q / 2 * 2 + q % 2 ≡ q = div-add-mod' q 2 in
    let few : q % 2 ≤ q = omega (arith, h) in
    let less : q % 2 * 2 ^ i ≤ q * 2 ^ i = mul-le-mul_right (2 ^ i) few in
    omega (arith, shr_split x i, less)

put_met : (w : Write) (v : Values) → bit_of (v w.spot.name) w.spot.offset ≡ w.value → put w v ≡ v
put_met w v e = λ i n. by n (bytes_eq n w.spot.name) refl i
  where
    by : (n : List ℕ) (b : Bool) → bytes_eq n w.spot.name ≡ b
        → (if b then with_bit (v n) w.spot.offset w.value else v n) ≡ v n
    by n true t =
        let same : n ≡ w.spot.name = (bytes_eq-Decides n w.spot.name).0 t in
        let is : w.value ≡ bit_of (v n) w.spot.offset = sym e ∙ ap (λ m. bit_of (v m) w.spot.offset) (sym same) in
        ap (with_bit (v n) w.spot.offset) is ∙ same_bit (v n) w.spot.offset
    by n false t = refl

pub puts_met : (ws : List Write) (v : Values) → Meets v ws → put_all ws v ≡ v
puts_met [] v m = refl
puts_met (w ∷ ws) v m = ap (put_all ws) (put_met w v m.0) ∙ puts_met ws v m.1

-- ---- what is written stands

small_bit : (x j : ℕ) → bit_of x j < 2
small_bit x j = omega arith

puts_written : (ds : List Decl) (bits : List (Option Spot)) (x : ℕ) (v : Values) → AreOnce ds bits
    → Each (λ w. bit_of (put_all (written bits x) v w.spot.name) w.spot.offset ≡ w.value) (written bits x)
puts_written ds [] x v o = tt
puts_written ds (None ∷ bits) x v o = puts_written ds bits x v o
puts_written ds (Some s ∷ bits) x v o = (
  puts_stay (written bits x) (put w v) s.name s.offset (written_small bits x)
      (written_to bits x s.name s.offset ∙ o.0)
      ∙ ap (λ c. bit_of (if c then with_bit (v s.name) s.offset w.value else v s.name) s.offset)
      ((bytes_eq-Decides s.name s.name).1 refl)
      ∙ bit_here (v s.name) s.offset w.value (small_bit x (length bits)),
  puts_written ds bits x (put w v) o.1,
)
  where
    w : Write
    w = record { spot = s; value = bit_of x (length bits) }

same_number : (i : ℕ) → (i == i) ≡ true
same_number i = grind (arith, nat_tests)

all_written : (bits : List (Option Spot)) (x : ℕ)
    → Each (λ w. has_spot w.spot.name w.spot.offset bits ≡ true) (written bits x)
all_written [] x = tt
all_written (None ∷ bits) x = all_written bits x
all_written (Some s ∷ bits) x = (
  or_left (bytes_eq s.name s.name && (s.offset == s.offset)) (has_spot s.name s.offset bits)
      (and_both (bytes_eq s.name s.name) (s.offset == s.offset) ((bytes_eq-Decides s.name s.name).1 refl)
      (same_number s.offset)),
  each_map (λ w h. spot_behind w.spot.name w.spot.offset (Some s) bits h) (written bits x) (all_written bits x),
)

each_both : {A : Type 0} (P Q R : A → Type 0) → ((x : A) → P x → Q x → R x) → (xs : List A) → Each P xs → Each Q xs
    → Each R xs
each_both P Q R f [] h g = tt
each_both P Q R f (x ∷ xs) h g = (f x h.0 g.0, each_both P Q R f xs h.1 g.1)

module _ (ds : List Decl) (wide : (d : Decl) → declared_as ds d.name ≡ Some d → 1 ≤ d.width) (cells : HaveOwnCells ds) where
  -- ---- an assignment

  mutual
    spots_fixed : (may : Decl → Bool) (v : Values) (l : Lval) → IsTarget ds may true l
        → spots (flat_scopes ds) v l ≡ spots (flat_scopes ds) no_values l
    spots_fixed may v (named p text xs) is =
        flat_name ds v text xs ∙ name_fixed ds wide v text xs is.0.sized (sym (flat_fixed ds xs) ∙ is.2)
        ∙ sym (flat_name ds no_values text xs)
    spots_fixed may v (joined p ls) is = all_spots_fixed may v ls is

    all_spots_fixed : (may : Decl → Bool) (v : Values) (ls : Lvals) → AreTargets ds may true ls
        → all_spots (flat_scopes ds) v ls ≡ all_spots (flat_scopes ds) no_values ls
    all_spots_fixed may v no_lvals is = refl
    all_spots_fixed may v (more_lvals l ls) is = λ z. spots_fixed may v l is.0 z ++ all_spots_fixed may v ls is.1 z

  pub leaves_assigned : (l : Lval) (e : Expr) (v : Values)
      → Meets v (assigned (flat_scopes ds) l (flat_scopes ds) e v)
      → AreOneOn ds (driven_by ds (k.Assign l e)) (driven ds (k.Assign l e) v) v
  leaves_assigned l e v m n i here t =
      ap (λ z. bit_of (z n) i) (puts_met (assigned (flat_scopes ds) l (flat_scopes ds) e v) v m)

  pub assigned_meets : (l : Lval) (e : Expr) (v : Values) → IsAssigned ds is_net true l
      → AreOnce ds (spots (flat_scopes ds) no_values l)
      → AreOneOn ds (driven_by ds (k.Assign l e)) (driven ds (k.Assign l e) v) v
      → Meets v (assigned (flat_scopes ds) l (flat_scopes ds) e v)
  assigned_meets l e v is once leaves =
      each_both (λ w. bit_of (put_all ws v w.spot.name) w.spot.offset ≡ w.value)
      (λ w. has_spot w.spot.name w.spot.offset bits ≡ true) (λ w. bit_of (v w.spot.name) w.spot.offset ≡ w.value)
      (λ w put h. sym (leaves w.spot.name w.spot.offset (mark.there v w.spot.name w.spot.offset h)
      (mark.within v w.spot.name w.spot.offset h)) ∙ put)
      ws (puts_written ds bits x v (subst (AreOnce ds) (sym (spots_fixed is_net v l is.0)) once)) (all_written bits x)
    where
      bits : List (Option Spot)
      bits = spots (flat_scopes ds) v l

      x : ℕ
      x = let o = operand_in (flat_scopes ds) v e in o.at (max (length bits) o.size) o.sign

      ws : List Write
      ws = written bits x

      mark : Marks ds l
      mark = marks ds wide is_net net_counted true l is.0

  -- ---- a block

  pub leaves_run : (s : Stmt) (v : Values)
      → ((d : Decl) (n : List ℕ) → IsCellOf ds d n → is_clock_class d.class ≡ false
      → (exec (flat_scopes ds) s (begun v)).now n ≡ v n)
      → AreOneOn ds (driven_by ds (k.Comb s)) (driven ds (k.Comb s) v) v
  leaves_run s v f n i here t = ap (λ x. bit_of x i) (f here.decl n here.of here.counted)

  -- numbers with the same bits
  pub same_numbers : (u v : Values) → AreInRange ds u → AreInRange ds v
      → ((n : List ℕ) (i : ℕ) → IsBitOf ds n i → bit_of (u n) i ≡ bit_of (v n) i) → (d : Decl) (n : List ℕ)
      → IsCellOf ds d n → is_clock_class d.class ≡ false → u n ≡ v n
  same_numbers u v ok_u ok_v f d n of counted =
      same_from_bits_below d.width (u n) (v n) (ok_u d n of counted) (ok_v d n of counted) (λ i less.
      f n i (record { decl = d; of = of; below = less; counted = counted }))

  pub run_same : (s : Stmt) → IsBlock ds s → Covers (sure ds is_blocking s) (assigns (flat_scopes ds) s) → (v : Values)
      → AreInRange ds v → AreOneOn ds (driven_by ds (k.Comb s)) (driven ds (k.Comb s) v) v → (d : Decl) (n : List ℕ)
      → IsCellOf ds d n → is_clock_class d.class ≡ false → (exec (flat_scopes ds) s (begun v)).now n ≡ v n
  run_same s is all v ok leaves =
      same_numbers (exec (flat_scopes ds) s (begun v)).now v ((comb_is ds wide cells s is all).ok v ok) ok
      (λ n i here. by n i here (assigns (flat_scopes ds) s n i) refl)
    where
      by : (n : List ℕ) (i : ℕ) → IsBitOf ds n i → (b : Bool) → assigns (flat_scopes ds) s n i ≡ b
          → bit_of ((exec (flat_scopes ds) s (begun v)).now n) i ≡ bit_of (v n) i
      by n i here true t = leaves n i here t
      by n i here false t = exec_stays ds wide s is (begun v) n i t
