-- The property of a check that looks around, by the words of a history.
use Rattle.std.specs.Prelude.{◌≡◌, refl, ℕ, zero, suc, ◌+◌, ◌-◌, ◌*◌, ◌≤◌, true, if◌then◌else◌, List, [], ◌∷◌}
use Rattle.std.specs.Prelude.{◌++◌, length, map, take, drop}
use Rattle.std.proofs.Common.{ap, sym, ◌∙◌, arith, subst}
use Rattle.std.proofs.lemmas.List.{length-reverse, length-map, length-append}
use Rattle.rv_table.specs.declared.retire.Opts.{Opts}
use Rattle.wn_net.specs.Value.{Given}
use Rattle.wn_net.specs.Net.{Netlist, value_at}
use Rattle.rvfi_port.specs.declared.port.Channel.{Channel}
use Rattle.rvfi_port.specs.Channels.{retires, retire_at}
use Rattle.ck_cfg.specs.declared.check.Check.{Check}
use Rattle.ck_cfg.specs.declared.kind.CheckKind.{CheckKind}
use Rattle.ck_cfg.specs.declared.kind.CheckKind.TheVariants as kinds
use Rattle.ck_spec.specs.declared.retired.Probe.{Probe}
use Rattle.ck_spec.specs.Lists.{found_at, where_found}
use Rattle.ck_spec.specs.Properties.{holds_at, cycle_of, property}
use Rattle.ck_history.specs.Entries.{Entry}
use Rattle.ck_history.specs.Lines.{past}
use Rattle.ck_gen.specs.Retirements.{retirements}
use Rattle.ck_gen.specs.Kept.{kept, kept_in}
use Rattle.ck_gen.proofs.Monitored.{IsAmong}
use Rattle.ck_gen.specs.Around.{LooksAround, holds_around, order_is_own, place_of}
use Rattle.ck_gen.proofs.Others.{front, back, own_entry, parts, unique_is, liveness_is}

take_front : (xs ys : List Entry) → take (length xs) (xs ++ ys) ≡ xs
take_front [] ys = refl
take_front (x ∷ xs) ys = ap (λ us. x ∷ us) (take_front xs ys)

drop_front : (xs ys : List Entry) → drop (length xs) (xs ++ ys) ≡ ys
drop_front [] ys = refl
drop_front (x ∷ xs) ys = drop_front xs ys

drop_next : (xs ys : List Entry) (y : Entry) → drop (length xs + 1) (xs ++ y ∷ ys) ≡ ys
drop_next [] ys y = refl
drop_next (x ∷ xs) ys y =
    let e : suc (length xs) + 1 ≡ suc (length xs + 1) = omega arith in
    ap (λ n. drop n (x ∷ (xs ++ y ∷ ys))) e ∙ drop_next xs ys y

kept_long : (kind : CheckKind) (net : Netlist) (g : Given) (cs : List Channel)
    → length (kept_in kind net g cs) ≡ length cs
kept_long kind net g cs =
    length-reverse (map (λ c. kept kind (value_at net g c.valid) (retire_at net g c)) cs)
    ∙ length-map cs (λ c. kept kind (value_at net g c.valid) (retire_at net g c))

past_long : (f : ℕ → List Entry) (n first count : ℕ) → ((k : ℕ) → length (f k) ≡ n)
    → length (past f first count) ≡ count * n
past_long f n first zero each = omega arith
past_long f n first (suc count) each =
    length-append (f (first + count)) (past f first count)
    ∙ (λ i. each (first + count) i + past_long f n first count each i)
    ∙ omega arith

module _ (net : Netlist) (run : ℕ → Given) (before behind : List Channel) (c : Channel) (check : Check) (a b : ℕ)
    (trig : check.trig ≡ check.start + a) (last : check.cycle ≡ check.start + (a + b))
    (own_channel : check.channel ≡ length before) where
  abbrev pub all : List Channel
  all = before ++ c ∷ behind

  abbrev pub es : CheckKind → List Entry
  es kind = past (λ k. kept_in kind net (run k) all) check.start (suc (a + b))

  abbrev pub ahead : CheckKind → List Entry
  ahead kind = front net run before behind c check a b trig last own_channel kind

  abbrev pub own : CheckKind → Entry
  own kind = own_entry net run before behind c check a b trig last own_channel kind

  abbrev pub rest : CheckKind → List Entry
  rest kind = back net run before behind c check a b trig last own_channel kind

  es_are : (kind : CheckKind) → es kind ≡ ahead kind ++ own kind ∷ rest kind
  es_are kind = parts net run before behind c check a b trig last own_channel kind

  place_is : (kind : CheckKind) → place_of check (length all) ≡ length (ahead kind)
  place_is kind =
      let n = length all in
      let later = past (λ k. kept_in kind net (run k) all) (check.start + a + 1) b in
      let mid = kept_in kind net (run (check.start + a)) behind in
      let long : length later ≡ b * n =
      past_long (λ k. kept_in kind net (run k) all) n (check.start + a + 1) b
      (λ k. kept_long kind net (run k) all) in
      let mid_long : length mid ≡ length behind = kept_long kind net (run (check.start + a)) behind in
      let total : n ≡ length before + suc (length behind) = length-append before (c ∷ behind) in
      let b_is : check.cycle - check.trig ≡ b = omega (arith, trig, last) in
      let low : n - 1 - check.channel ≡ length behind = omega (arith, total, own_channel) in
      (λ i. b_is i * n + low i)
      ∙ sym (length-append later mid ∙ (λ i. long i + mid_long i))

  -- what stands at the place, and before and behind it
  pub here : (kind : CheckKind)
      → drop (place_of check (length all)) (es kind) ≡ own kind ∷ drop (place_of check (length all) + 1) (es kind)
  here kind =
      let xs = ahead kind in
      (λ i. drop (place_is kind i) (es_are kind i))
      ∙ drop_front xs (own kind ∷ rest kind)
      ∙ sym (ap (λ ys. own kind ∷ ys)
      ((λ i. drop (place_is kind i + 1) (es_are kind i)) ∙ drop_next xs (rest kind) (own kind)))

  front_is : (kind : CheckKind) → take (place_of check (length all)) (es kind) ≡ ahead kind
  front_is kind = (λ i. take (place_is kind i) (es_are kind i)) ∙ take_front (ahead kind) (own kind ∷ rest kind)

  back_is : (kind : CheckKind) → drop (place_of check (length all) + 1) (es kind) ≡ rest kind
  back_is kind = (λ i. drop (place_is kind i + 1) (es_are kind i)) ∙ drop_next (ahead kind) (rest kind) (own kind)

  pub held : (kind : CheckKind) (probe : Probe) (opts : Opts) → LooksAround kind
      → where_found (found_at check (cycle_of check kind) (retirements net run all check.start (suc (a + b))))
      (λ r. holds_at check (retirements net run all check.start (suc (a + b))) probe opts r kind)
      ≡ (if retires net (run (check.start + a)) c
      then holds_around kind (place_of check (length all)) (own kind) (es kind) else true)
  held kinds.Unique probe opts round =
      unique_is net run before behind c check a b trig last own_channel probe opts
      ∙ sym (λ i. if retires net (run (check.start + a)) c
      then order_is_own (own kinds.Unique) (front_is kinds.Unique i) (back_is kinds.Unique i) else true)
  held kinds.Liveness probe opts round = liveness_is net run before behind c check a b trig last own_channel probe opts
  held kinds.Insn probe opts round = absurd round
  held kinds.Ill probe opts round = absurd round
  held kinds.Reg probe opts round = absurd round
  held kinds.PcFwd probe opts round = absurd round
  held kinds.PcBwd probe opts round = absurd round
  held kinds.Causal probe opts round = absurd round
  held kinds.Imem probe opts round = absurd round
  held kinds.Dmem probe opts round = absurd round

-- the entry of the trigger's retirement, and what the property comes to
pub record IsAround (net : Netlist) (run : ℕ → Given) (all : List Channel) (c : Channel) (check : Check)
    (probe : Probe) (opts : Opts) : Type 0 where
  pub here : drop (place_of check (length all))
      (past (λ k. kept_in check.kind net (run k) all) check.start (check.cycle - check.start + 1))
      ≡ kept check.kind (value_at net (run check.trig) c.valid) (retire_at net (run check.trig) c)
      ∷ drop (place_of check (length all) + 1)
      (past (λ k. kept_in check.kind net (run k) all) check.start (check.cycle - check.start + 1))
  pub held : property check (retirements net run all check.start (check.cycle - check.start + 1)) probe opts
      ≡ (if retires net (run check.trig) c
      then holds_around check.kind (place_of check (length all))
      (kept check.kind (value_at net (run check.trig) c.valid) (retire_at net (run check.trig) c))
      (past (λ k. kept_in check.kind net (run k) all) check.start (check.cycle - check.start + 1))
      else true)

pub looks_around : (net : Netlist) (run : ℕ → Given) (all : List Channel) (c : Channel) (check : Check) (probe : Probe)
    (opts : Opts) → IsAmong all check.channel c → check.start ≤ check.trig → check.trig ≤ check.cycle
    → LooksAround check.kind → IsAround net run all c check probe opts
looks_around net run all c check probe opts among low high round =
    let P : List Channel → Type 0 = λ xs. IsAround net run xs c check probe opts in
    let xs = among.before ++ c ∷ among.behind in
    let a = check.trig - check.start in
    let b = check.cycle - check.trig in
    let kind = check.kind in
    let trig : check.trig ≡ check.start + a = omega (arith, low) in
    let last : check.cycle ≡ check.start + (a + b) = omega (arith, low, high) in
    let count : suc (a + b) ≡ check.cycle - check.start + 1 = omega (arith, low, high) in
    let own_is : kept kind (value_at net (run (check.start + a)) c.valid) (retire_at net (run (check.start + a)) c)
    ≡ kept kind (value_at net (run check.trig) c.valid) (retire_at net (run check.trig) c) =
    ap (λ k. kept kind (value_at net (run k) c.valid) (retire_at net (run k) c)) (sym trig) in
    let f : ℕ → List Entry = λ k. kept_in kind net (run k) xs in
    let place = place_of check (length xs) in
    subst P among.all (record {
      here =
          ap (λ n. drop place (past f check.start n)) (sym count)
          ∙ here net run among.before among.behind c check a b trig last among.many kind
          ∙ (λ i. own_is i ∷ drop (place + 1) (past f check.start (count i)));
      held =
          ap (λ n. property check (retirements net run xs check.start n) probe opts) (sym count)
          ∙ held net run among.before among.behind c check a b trig last among.many kind probe opts round
          ∙ (λ i. if retires net (run (sym trig i)) c
          then holds_around kind place (own_is i) (past f check.start (count i)) else true);
    })
