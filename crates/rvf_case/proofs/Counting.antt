-- There are few questions.
use Rattle.std.proofs.Common.{◌≡◌, ℕ, zero, suc, ◌+◌, ◌*◌, ◌^◌, ◌<◌, ◌≤◌, Bool, true, false, not, List, [], ◌∷◌, length, Option}
use Rattle.std.proofs.Common.{Some, None, refl, sym, ◌∙◌, ap, subst, arith, lit≤}
use Rattle.std.specs.Prelude.{find, if◌then◌else◌, option_map, option_to_list}
use Rattle.std.specs.List.{filter, flat_map, range_with_len}
use Rattle.std.proofs.lemmas.List.{length-append, length-map}
use Rattle.std.proofs.lemmas.List.Concat.{length-flat_map}
use Rattle.std.proofs.lemmas.List.Filters.{length-filter_both}
use Rattle.std.proofs.lemmas.List.Sums.{length-filter, count_by-le-length}
use Rattle.rv_table.specs.declared.row.RowId.{RowId}
use Rattle.rv_table.specs.Matching as matching
use Rattle.ck_cfg.specs.declared.check.Check.{Check}
use Rattle.ck_cfg.specs.declared.config.Config.{Config}
use Rattle.ck_cfg.specs.declared.config.Depth.{Depth}
use Rattle.ck_cfg.specs.declared.kind.CheckKind.{CheckKind}
use Rattle.ck_cfg.specs.declared.kind.CheckKind.TheVariants.{Insn, Ill, Reg, PcFwd, PcBwd, Causal, Unique, Liveness}
use Rattle.ck_cfg.specs.declared.kind.CheckKind.TheVariants.{Imem, Dmem}
use Rattle.ck_cfg.specs.Checks.{channel_check, channel_checks, check_at, checks_of, depth_for, is_named, isa_rows}
use Rattle.ck_cfg.specs.Checks.{kind_checks, kind_rows, listed_checks, moved}
use Rattle.ck_cfg.specs.Kind.{kinds}
use Rattle.rv_zb.specs.declared.row.ZbRow.{ZbRow}
use Rattle.rv_zb.specs.Rows.{zb_rows}
use Rattle.ck_cover.specs.Targets.{any_of, any_target, any_targets, greatest, hit_of, hit_row, hit_target, hit_targets}
use Rattle.ck_cover.specs.Targets.{targets_of}
use Rattle.ck_cover.specs.declared.target.Target.{Target}
use Rattle.ck_gen.specs.Monitors.{is_of_one_cycle}
use Rattle.ck_induct.specs.OneCycle.{in_cycle}
use Rattle.rvf_case.specs.Texts.{is_same_text, factors_of, of_one_cycle, only_named, questions_of, with_text}
use Rattle.ck_ask.specs.Questions.{question_cycle, question_kind}
use Rattle.ck_ask.specs.ZbChecks.{is_insn_at, zb_channel_check, zb_check_at, zb_checks_of, zb_row_checks}
use Rattle.ck_ask.specs.declared.zb_check.ZbCheck.{ZbCheck}
use Rattle.ck_ask.specs.declared.question.Question.{Question}
use Rattle.ck_ask.specs.declared.question.Question.TheVariants as question
use Rattle.rvf_case.specs.Askings.{Asking}
use Rattle.rvf_case.specs.Askings as asking

-- what is kept of a list is no longer
pub fewer : {X : Type 0} (p : X → Bool) (xs : List X) → length (filter p xs) ≤ length xs
fewer p xs = subst (λ n. n ≤ length xs) (sym (length-filter p xs)) (count_by-le-length p xs)

moved_count : (names : List (List ℕ)) (xs : List Check) → length (moved names xs) ≡ length xs
moved_count [] xs = refl
moved_count (n ∷ ns) xs =
    length-append (filter (is_named n) xs) (moved ns (filter (λ x. not (is_named n x)) xs))
    ∙ ap (λ k. length (filter (is_named n) xs) + k) (moved_count ns (filter (λ x. not (is_named n x)) xs))
    ∙ length-filter_both (is_named n) (λ x. not (is_named n x)) (λ x. refl) xs

one_each : {X Y : Type 0} (f : X → List Y) → ((x : X) → length (f x) ≤ 1) → (xs : List X)
    → length (flat_map f xs) ≤ length xs
one_each f h [] = omega arith
one_each f h (x ∷ xs) =
    let a = h x in
    let b = one_each f h xs in
    let e = length-append (f x) (flat_map f xs) in
    omega arith

two_each : {X Y : Type 0} (f : X → List Y) → ((x : X) → length (f x) ≤ 2) → (xs : List X)
    → length (flat_map f xs) ≤ 2 * length xs
two_each f h [] = omega arith
two_each f h (x ∷ xs) =
    let a = h x in
    let b = two_each f h xs in
    let e = length-append (f x) (flat_map f xs) in
    omega arith

range_long : (first count : ℕ) → length (range_with_len first count) ≡ count
range_long first zero = refl
range_long first (suc count) = ap suc (range_long (first + 1) count)

one_channel : (depths : List Depth) (kind : CheckKind) (row : Option RowId) (channel : ℕ)
    → length (channel_check depths kind row channel) ≤ 1
one_channel depths kind row channel = step (depth_for depths kind channel) where
  step : (o : Option Depth) → length (option_to_list (option_map (check_at kind row channel) o)) ≤ 1
  step None = omega arith
  step (Some d) = omega arith

two_rows : (c : Config) (kind : CheckKind) (row : Option RowId) → c.nret ≤ 2
    → length (channel_checks c kind row) ≤ 2
two_rows c kind row few =
    let a = one_each (channel_check c.depths kind row) (one_channel c.depths kind row) (range_with_len 0 c.nret) in
    let b = range_long 0 c.nret in
    omega (arith, a, b, few)

few_rows : (c : Config) (kind : CheckKind) → length (kind_rows c.isa kind) ≤ 70
few_rows c Insn =
    let e = length-map (isa_rows c.isa) (λ (row : RowId). Some row) in
    let f = fewer (matching.has c.isa) matching.rows in
    let n : length matching.rows ≡ 70 = refl in
    omega arith
few_rows c Ill = omega arith
few_rows c Reg = omega arith
few_rows c PcFwd = omega arith
few_rows c PcBwd = omega arith
few_rows c Causal = omega arith
few_rows c Unique = omega arith
few_rows c Liveness = omega arith
few_rows c Imem = omega arith
few_rows c Dmem = omega arith

few_of_kind : (c : Config) → c.nret ≤ 2 → (kind : CheckKind) → length (kind_checks c kind) ≤ 140
few_of_kind c e kind =
    let a = two_each (channel_checks c kind) (λ row. two_rows c kind row e) (kind_rows c.isa kind) in
    let b = few_rows c kind in
    omega arith

ten_kinds : {Y : Type 0} (f : CheckKind → List Y) → ((kind : CheckKind) → length (f kind) ≤ 140)
    → length (flat_map f kinds) ≤ 1400
ten_kinds f h =
    let e = length-flat_map f kinds in
    omega (arith, h Insn, h Ill, h Reg, h PcFwd, h PcBwd, h Causal, h Unique, h Liveness, h Imem, h Dmem)

pub few_checks : (c : Config) → c.nret ≤ 2 → length (checks_of c) ≤ 1400
few_checks c e =
    subst (λ n. n ≤ 1400) (sym (moved_count c.sort (listed_checks c))) (ten_kinds (kind_checks c) (few_of_kind c e))

-- of what may be there at most one is made
one_made : {X Y : Type 0} (f : X → Y) (o : Option X) → length (option_to_list (option_map f o)) ≤ 1
one_made f None = omega arith
one_made f (Some x) = omega arith

pub few_targets : (checks : List Check) → length (targets_of checks) ≤ length checks + 10
few_targets checks =
    let a = one_each (any_of checks) (λ kind. one_made (any_target kind) (greatest kind checks)) kinds in
    let b = one_each hit_of (λ c. one_made (hit_target c) (hit_row c)) checks in
    let e = length-append (any_targets checks) (hit_targets checks) in
    let ten : length kinds ≡ 10 = refl in
    omega (arith, a, b, e, ten)

few_in_row : (checks : List Check) (channels : ℕ) (row : ZbRow) → channels ≤ 2
    → length (zb_row_checks checks channels row) ≤ 2
few_in_row checks channels row few =
    let a =
    one_each (zb_channel_check checks row) (λ channel. one_made (zb_check_at row channel)
    (option_map (λ (c : Check). c.cycle) (find (is_insn_at channel) checks))) (range_with_len 0 channels) in
    let b = range_long 0 channels in
    omega (arith, a, b, few)

pub few_zb_checks : (checks : List Check) (channels : ℕ) → channels ≤ 2 → length (zb_checks_of checks channels) ≤ 22
few_zb_checks checks channels few =
    let a = two_each (zb_row_checks checks channels) (λ row. few_in_row checks channels row few) zb_rows in
    let eleven : length zb_rows ≡ 11 = refl in
    omega (arith, a, eleven)

-- at most one check has a name
one_named : (name : List ℕ) (xs : List Check) → length (only_named name xs) ≤ 1
one_named name [] = omega arith
one_named name (x ∷ xs) = step (is_named name x) (one_named name xs) where
  step : (b : Bool) → length (only_named name xs) ≤ 1 → length (if b then x ∷ [] else only_named name xs) ≤ 1
  step true h = omega arith
  step false h = h

-- and so there are few questions
pub few_questions : (a : Asking) (c : Config) → c.nret ≤ 2 → length (questions_of a c) < 2 ^ 32
few_questions asking.Checks c e =
    let many = length-map (checks_of c) (λ (x : Check). question.Check x) in
    let few = few_checks c e in
    let most : 1400 < 2 ^ 32 = lit≤ tt in
    omega (arith, many, few, most)
few_questions asking.Targets c e =
    let many = length-map (targets_of (checks_of c)) (λ (t : Target). question.Target t) in
    let targets = few_targets (checks_of c) in
    let few = few_checks c e in
    let most : 1410 < 2 ^ 32 = lit≤ tt in
    omega (arith, many, targets, few, most)
few_questions asking.Zb c e =
    let many = length-map (zb_checks_of (checks_of c) c.nret) (λ (z : ZbCheck). question.Zb z) in
    let few = few_zb_checks (checks_of c) c.nret e in
    let most : 22 < 2 ^ 32 = lit≤ tt in
    omega (arith, many, few, most)
few_questions (asking.Lengths k) c e =
    let kept = filter (λ (x : Check). is_of_one_cycle x.kind) (checks_of c) in
    let many = length-map (of_one_cycle k (checks_of c)) (λ (x : Check). question.Check x) in
    let moved = length-map kept (λ (x : Check). in_cycle x k) in
    let fewest = fewer (λ (x : Check). is_of_one_cycle x.kind) (checks_of c) in
    let few = few_checks c e in
    let most : 1400 < 2 ^ 32 = lit≤ tt in
    omega (arith, many, moved, fewest, few, most)
few_questions (asking.One name) c e =
    let many = length-map (only_named name (checks_of c)) (λ (x : Check). question.Check x) in
    let few = one_named name (checks_of c) in
    let most : 1 < 2 ^ 32 = lit≤ tt in
    omega (arith, many, few, most)

pub few_factors : (c : Config) (kind : CheckKind) (qs : List Question) (factors : List ℕ) → length qs < 2 ^ 32
    → factors ≡ factors_of (with_text c kind qs) → length factors < 2 ^ 32
few_factors c kind qs factors few f =
    let a : length factors ≡ length (with_text c kind qs) =
    ap length f ∙ length-map (with_text c kind qs) (λ (q : Question). question_cycle q + 1) in
    let b : length (with_text c kind qs) ≤ length qs = fewer (λ q. is_same_text c kind (question_kind q)) qs in
    small (length factors) (length (with_text c kind qs)) (length qs) a b few where
      small : (a b d : ℕ) → a ≡ b → b ≤ d → d < 2 ^ 32 → a < 2 ^ 32
      small a b d e f g = omega arith
