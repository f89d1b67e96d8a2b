-- The checks of a configuration are lawful.
use Rattle.std.proofs.Common.{◌≡◌, ℕ, zero, suc, ◌+◌, ◌<◌, ◌≤◌, Bool, true, false, not, cond, ◌&&◌, List, [], ◌∷◌}
use Rattle.std.proofs.Common.{◌++◌, Option, Some, None, refl, ap, sym, subst, ◌∙◌, arith}
use Rattle.std.specs.Prelude.{map, find, bytes_eq, option_map, option_to_list}
use Rattle.std.specs.Option.{option_or}
use Rattle.std.specs.List.{AllByRecursion, filter, flat_map, range_with_len}
use Rattle.std.proofs.lemmas.Bool.{false≢true}
use Rattle.std.proofs.lemmas.Slice.Eq.{bytes_eq-Decides}
use Rattle.rv_table.specs.declared.row.RowId.{RowId}
use Rattle.ck_cfg.specs.declared.kind.CheckKind.{CheckKind}
use Rattle.ck_cfg.specs.declared.kind.CheckKind.TheVariants.{Insn, Ill, Reg, PcFwd, PcBwd, Causal, Unique, Liveness}
use Rattle.ck_cfg.specs.declared.kind.CheckKind.TheVariants.{Imem, Dmem}
use Rattle.ck_cfg.specs.declared.config.Depth.{Depth}
use Rattle.ck_cfg.specs.declared.config.Config.{Config}
use Rattle.ck_cfg.specs.declared.check.Check.{Check}
use Rattle.ck_cfg.specs.Kind.{kind_name, kinds, is_kind}
use Rattle.ck_cfg.specs.Depths.{is_channel, is_for}
use Rattle.ck_cfg.specs.Checks.{depth_for, check_at, channel_check, channel_checks, isa_rows, kind_rows}
use Rattle.ck_cfg.specs.Checks.{kind_checks, listed_checks, is_named, moved}
use Rattle.ck_cfg.specs.Lawful.{RowFits, least_cycle, IsCheck, HasLawfulChecks}
use Rattle.ck_cfg.proofs.Places.{find_passes}

module _ {X : Type 0} (P : X → Type 0) where
  pub all_append : (xs ys : List X) → AllByRecursion P xs → AllByRecursion P ys → AllByRecursion P (xs ++ ys)
  all_append [] ys a b = b
  all_append (x ∷ xs) ys a b = (a.0, all_append xs ys a.1 b)

  all_filter : (p : X → Bool) (xs : List X) → AllByRecursion P xs → AllByRecursion P (filter p xs)
  all_filter p [] a = tt
  all_filter p (x ∷ xs) a = step (p x) (all_filter p xs a.1) where
    step : (b : Bool) → AllByRecursion P (filter p xs) → AllByRecursion P (cond b (x ∷ filter p xs) (filter p xs))
    step true r = (a.0, r)
    step false r = r

  all_found : (p : X → Bool) (xs : List X) (x : X) → AllByRecursion P xs → find p xs ≡ Some x → P x
  all_found p [] x a e = absurd (let f : ⊥ = cc in f)
  all_found p (y ∷ ys) x a e = step (p y) (all_found p ys x a.1) e where
    step : (b : Bool) → (find p ys ≡ Some x → P x) → cond b (Some y) (find p ys) ≡ Some x → P x
    step true f g = let one : y ≡ x = cc in subst P one a.0
    step false f g = f g

all_flat : {X Y : Type 0} (P : X → Type 0) (Q : Y → Type 0) (f : X → List Y) (xs : List X)
    → ((x : X) → P x → AllByRecursion Q (f x)) → AllByRecursion P xs → AllByRecursion Q (flat_map f xs)
all_flat P Q f [] g a = tt
all_flat P Q f (x ∷ xs) g a = all_append Q (f x) (flat_map f xs) (g x a.0) (all_flat P Q f xs g a.1)

all_within : (end a n : ℕ) → a + n ≤ end → AllByRecursion (λ i. i < end) (range_with_len a n)
all_within end a zero h = tt
all_within end a (suc n) h = (omega arith, all_within end (a + 1) n (omega arith))

-- a kind is told by its name
named_by : (kind : CheckKind) → find (λ k. bytes_eq (kind_name k) (kind_name kind)) kinds ≡ Some kind
unfolding kind_name
named_by Insn = refl
named_by Ill = refl
named_by Reg = refl
named_by PcFwd = refl
named_by PcBwd = refl
named_by Causal = refl
named_by Unique = refl
named_by Liveness = refl
named_by Imem = refl
named_by Dmem = refl

same_kind : (a b : CheckKind) → is_kind a b ≡ true → a ≡ b
same_kind a b t =
    let e : kind_name a ≡ kind_name b = same_bytes (kind_name a) (kind_name b) t in
    some_is a b (sym (named_by a) ∙ ap (λ n. find (λ k. bytes_eq (kind_name k) n) kinds) e ∙ named_by b) where
      some_is : (x y : CheckKind) → Some x ≡ Some y → x ≡ y
      some_is x y e = cc

      same_bytes : (xs ys : List ℕ) → bytes_eq xs ys ≡ true → xs ≡ ys
      same_bytes xs ys t = (bytes_eq-Decides xs ys).0 t

-- what a depth line keeps
pub record IsDeep (d : Depth) : Type 0 where
  pub start : d.start ≤ d.trig
  pub trig : d.trig ≤ d.cycle
  pub least : least_cycle d.kind ≤ d.cycle
  pub most : d.cycle ≤ 100

-- the depth for a channel is one of the lines, and of the kind
record IsFound (kind : CheckKind) (d : Depth) : Type 0 where
  deep : IsDeep d
  kind_is : d.kind ≡ kind

and_first : (a b : Bool) → (a && b) ≡ true → a ≡ true
and_first true b e = refl
and_first false b e = absurd (false≢true e)

found_by : (depths : List Depth) (kind : CheckKind) (channel : Option ℕ) (d : Depth) → AllByRecursion IsDeep depths
    → find (is_for kind channel) depths ≡ Some d → IsFound kind d
found_by depths kind channel d a e =
    let t = find_passes (is_for kind channel) depths d e in
    record {
      deep = all_found IsDeep (is_for kind channel) depths d a e;
      kind_is = same_kind d.kind kind (and_first (is_kind d.kind kind) (is_channel d.channel channel) t);
    }

depth_found : (depths : List Depth) (kind : CheckKind) (channel : ℕ) (d : Depth) → AllByRecursion IsDeep depths
    → depth_for depths kind channel ≡ Some d → IsFound kind d
depth_found depths kind channel d a e =
    step (find (is_for kind (Some channel)) depths) (λ f g. found_by depths kind (Some channel) f a g) e where
      step : (o : Option Depth) → ((f : Depth) → o ≡ Some f → IsFound kind f)
          → option_or o (find (is_for kind None) depths) ≡ Some d → IsFound kind d
      step None h g = found_by depths kind None d a g
      step (Some f) h g = h d g

channel_lawful : (c : Config) (kind : CheckKind) (row : Option RowId) (channel : ℕ) → AllByRecursion IsDeep c.depths
    → RowFits kind row → channel < c.nret → AllByRecursion (IsCheck c.nret) (channel_check c.depths kind row channel)
channel_lawful c kind row channel a r lt =
    step (depth_for c.depths kind channel) (λ d e. depth_found c.depths kind channel d a e) where
      step : (o : Option Depth) → ((d : Depth) → o ≡ Some d → IsFound kind d)
          → AllByRecursion (IsCheck c.nret) (option_to_list (option_map (check_at kind row channel) o))
      step None h = tt
      step (Some d) h =
          let f = h d refl in (
            record {
              lawful = record {
                row = r;
                start = f.deep.start;
                trig = f.deep.trig;
                least = subst (λ k. least_cycle k ≤ d.cycle) f.kind_is f.deep.least;
                most = f.deep.most;
              };
              channel = lt;
            },
            tt,
          )

rows_fit : (xs : List RowId) → AllByRecursion (RowFits Insn) (map (λ row. Some row) xs)
rows_fit [] = tt
rows_fit (x ∷ xs) = (tt, rows_fit xs)

kind_lawful : (c : Config) (kind : CheckKind) → AllByRecursion IsDeep c.depths
    → AllByRecursion (IsCheck c.nret) (kind_checks c kind)
kind_lawful c kind a = all_flat (RowFits kind) (IsCheck c.nret) (channel_checks c kind) (kind_rows c.isa kind)
    (λ row r. all_flat (λ i. i < c.nret) (IsCheck c.nret) (channel_check c.depths kind row) (range_with_len 0 c.nret)
    (λ i lt. channel_lawful c kind row i a r lt) (all_within c.nret 0 c.nret (omega arith))) (fit kind) where
      fit : (k : CheckKind) → AllByRecursion (RowFits k) (kind_rows c.isa k)
      fit Insn = rows_fit (isa_rows c.isa)
      fit Ill = (refl, tt)
      fit Reg = (refl, tt)
      fit PcFwd = (refl, tt)
      fit PcBwd = (refl, tt)
      fit Causal = (refl, tt)
      fit Unique = (refl, tt)
      fit Liveness = (refl, tt)
      fit Imem = (refl, tt)
      fit Dmem = (refl, tt)

moved_lawful : (P : Check → Type 0) (names : List (List ℕ)) (cs : List Check) → AllByRecursion P cs
    → AllByRecursion P (moved names cs)
moved_lawful P [] cs a = a
moved_lawful P (n ∷ ns) cs a = all_append P (filter (is_named n) cs) (moved ns (filter (λ c. not (is_named n c)) cs))
    (all_filter P (is_named n) cs a) (moved_lawful P ns (filter (λ c. not (is_named n c)) cs)
    (all_filter P (λ c. not (is_named n c)) cs a))

all_kinds : (ks : List CheckKind) → AllByRecursion (λ k. Unit {0}) ks
all_kinds [] = tt
all_kinds (k ∷ ks) = (tt, all_kinds ks)

-- deep lines have lawful checks
pub deep_is_lawful : (c : Config) → AllByRecursion IsDeep c.depths → HasLawfulChecks c
deep_is_lawful c a =
    moved_lawful (IsCheck c.nret) c.sort (listed_checks c)
    (all_flat (λ k. Unit {0}) (IsCheck c.nret) (kind_checks c) kinds (λ k u. kind_lawful c k a) (all_kinds kinds))
