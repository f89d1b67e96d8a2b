-- The depth lines that were read are deep.
use Rattle.std.proofs.Common.{◌≡◌, ℕ, ◌<◌, ◌≤◌, Bool, true, false, cond, ◌&&◌, List, [], ◌∷◌, Option, Some, None}
use Rattle.std.proofs.Common.{Result, Ok, Err, refl, subst, arith}
use Rattle.std.specs.Prelude.{option_map, option_and_then, nat_le, nat_lt, codes, IfOk}
use Rattle.std.specs.List.{AllByRecursion, list_any}
use Rattle.std.specs.Str.{bytes_eq, is_utf8}
use Rattle.std.proofs.lemmas.Bool.{false≢true}
use Rattle.std.proofs.lemmas.Bool.Decides.{nat_tests}
use Rattle.ck_cfg.specs.declared.kind.CheckKind.{CheckKind}
use Rattle.ck_cfg.specs.declared.kind.CheckKind.TheVariants.{Insn, Ill, Reg, PcFwd, PcBwd, Causal, Unique, Liveness}
use Rattle.ck_cfg.specs.declared.kind.CheckKind.TheVariants.{Imem, Dmem}
use Rattle.ck_cfg.specs.declared.config.Depth.{Depth}
use Rattle.ck_cfg.specs.declared.config.Config.{Config}
use Rattle.ck_cfg.specs.declared.cycles.Cycles.{Cycles}
use Rattle.ck_cfg.specs.declared.fault.CfgFault.{CfgFault}
use Rattle.ck_cfg.specs.declared.fault.CfgFault.TheVariants as fault
use Rattle.ck_cfg.specs.declared.reader.Reader.{Reader}
use Rattle.ck_cfg.specs.declared.section.Section.{Section}
use Rattle.ck_cfg.specs.declared.section.Section.TheVariants as s
use Rattle.ck_cfg.specs.declared.target.Target.{Target}
use Rattle.fv_lines.specs.Words.{is_nil, words}
use Rattle.rv_table.specs.declared.retire.Isa.{Isa}
use Rattle.ck_cfg.specs.Cycles.{numbers_of, lone, pair, triple, lone_or_pair, cycles_said, cycles_of}
use Rattle.ck_cfg.specs.Target.{target_of}
use Rattle.ck_cfg.specs.Depths.{is_skipped, is_for, depth_at, depth_with, depth_of, with_skip, with_depth_of}
use Rattle.ck_cfg.specs.Depths.{with_new_depth, with_depth_read, with_depth}
use Rattle.ck_cfg.specs.Options.{is_among, isa_named, idle_keys, with_key, once, with_isa_of, with_isa_named}
use Rattle.ck_cfg.specs.Options.{with_isa, nret_named, with_nret_named, with_nret, with_option}
use Rattle.ck_cfg.specs.Scripts.{names_read, with_names, with_script}
use Rattle.ck_cfg.specs.Section.{section_named}
use Rattle.ck_cfg.specs.Channels.{stated_nret}
use Rattle.ck_cfg.specs.Line.{Line, section_begun, counted_lines}
use Rattle.fv_text.specs.Results.{and_then}
use Rattle.ck_cfg.specs.Faults.{Answers}
use Rattle.ck_cfg.specs.Reading.{start, in_section, with_text_in, with_text_at, with_text, with_section_named}
use Rattle.ck_cfg.specs.Reading.{with_section, with_line_begun, with_line, with_lines, finished, config_of_lines}
use Rattle.ck_cfg.specs.Reading.{config_of}
use Rattle.ck_cfg.specs.Lawful.{least_cycle, HasLawfulChecks}
use Rattle.ck_cfg.proofs.Lawfulness.{IsDeep, all_append, deep_is_lawful}

-- cycles in order, for this kind
pub record InOrder (kind : CheckKind) (c : Cycles) : Type 0 where
  pub start : c.start ≤ c.trig
  pub trig : c.trig ≤ c.cycle
  pub least : least_cycle kind ≤ c.cycle

-- a fact about what is there
abbrev pub OnSome : {X : Type 0} → (X → Type 0) → Option X → Type 0
OnSome P None = Unit {0}
OnSome P (Some x) = P x

some_where : {X : Type 0} (P : X → Type 0) (b : Bool) (o : Option X) → (b ≡ true → OnSome P o)
    → OnSome P (cond b o None)
some_where P true o f = f refl
some_where P false o f = tt

and_parts : (a b : Bool) → (a && b) ≡ true → (a ≡ true) × (b ≡ true)
and_parts true b e = (refl, e)
and_parts false b e = absurd (false≢true e)

at_most : (a b : ℕ) → nat_le a b ≡ true → a ≤ b
at_most a b t = grind (arith, nat_tests)

below : (a b : ℕ) → nat_lt a b ≡ true → a < b
below a b t = grind (arith, nat_tests)

lone_in_order : (kind : CheckKind) → least_cycle kind ≤ 1 → (ns : List ℕ) → OnSome (InOrder kind) (lone ns)
lone_in_order kind h [] = tt
lone_in_order kind h (k ∷ []) = some_where (InOrder kind) (nat_le 1 k)
    (Some (record { start = 1; trig = k; cycle = k }))
    (λ t. let l = at_most 1 k t in record { start = l; trig = omega arith; least = omega arith })
lone_in_order kind h (k ∷ n ∷ ns) = tt

pair_in_order : (kind : CheckKind) → least_cycle kind ≤ 0 → (ns : List ℕ) → OnSome (InOrder kind) (pair ns)
pair_in_order kind h [] = tt
pair_in_order kind h (k ∷ []) = tt
pair_in_order kind h (s ∷ k ∷ []) = some_where (InOrder kind) (nat_le s k)
    (Some (record { start = s; trig = k; cycle = k }))
    (λ t. let l = at_most s k t in record { start = l; trig = omega arith; least = omega arith })
pair_in_order kind h (s ∷ k ∷ n ∷ ns) = tt

triple_in_order : (kind : CheckKind) → least_cycle kind ≤ 0 → (ns : List ℕ) → OnSome (InOrder kind) (triple ns)
triple_in_order kind h [] = tt
triple_in_order kind h (k ∷ []) = tt
triple_in_order kind h (s ∷ k ∷ []) = tt
triple_in_order kind h (s ∷ t ∷ k ∷ []) = some_where (InOrder kind) (nat_le s t && nat_lt t k)
    (Some (record { start = s; trig = t; cycle = k }))
    (λ e. let p = and_parts (nat_le s t) (nat_lt t k) e in let l = at_most s t p.0 in let m = below t k p.1
    in record { start = l; trig = omega arith; least = omega arith })
triple_in_order kind h (s ∷ t ∷ k ∷ n ∷ ns) = tt

either_in_order : (kind : CheckKind) → least_cycle kind ≤ 1 → (ns : List ℕ) → OnSome (InOrder kind) (lone_or_pair ns)
either_in_order kind h [] = tt
either_in_order kind h (k ∷ []) = lone_in_order kind h (k ∷ [])
either_in_order kind h (s ∷ k ∷ []) =
    some_where (InOrder kind) (nat_le s k) (lone (k ∷ [])) (λ t. lone_in_order kind h (k ∷ []))
either_in_order kind h (s ∷ k ∷ n ∷ ns) = tt

said_in_order : (kind : CheckKind) (ns : List ℕ) → OnSome (InOrder kind) (cycles_said kind ns)
said_in_order Insn ns = lone_in_order Insn (omega arith) ns
said_in_order Ill ns = lone_in_order Ill (omega arith) ns
said_in_order Reg ns = pair_in_order Reg (omega arith) ns
said_in_order PcFwd ns = pair_in_order PcFwd (omega arith) ns
said_in_order PcBwd ns = pair_in_order PcBwd (omega arith) ns
said_in_order Causal ns = pair_in_order Causal (omega arith) ns
said_in_order Unique ns = triple_in_order Unique (omega arith) ns
said_in_order Liveness ns = triple_in_order Liveness (omega arith) ns
said_in_order Imem ns = either_in_order Imem (omega arith) ns
said_in_order Dmem ns = pair_in_order Dmem (omega arith) ns

in_order : (kind : CheckKind) (ws : List (List ℕ)) → OnSome (InOrder kind) (cycles_of kind ws)
in_order kind ws = step (numbers_of ws) where
  step : (o : Option (List ℕ)) → OnSome (InOrder kind) (option_and_then (cycles_said kind) o)
  step None = tt
  step (Some ns) = said_in_order kind ns

-- a depth whose cycles are in order
pub record IsOrdered (d : Depth) : Type 0 where
  pub start : d.start ≤ d.trig
  pub trig : d.trig ≤ d.cycle
  pub least : least_cycle d.kind ≤ d.cycle

depth_ordered : (channels : ℕ) (word : List ℕ) (ws : List (List ℕ)) → OnSome IsOrdered (depth_of channels word ws)
depth_ordered channels word ws = step (target_of channels word) where
  at : (t : Target) (o : Option Cycles) → OnSome (InOrder t.kind) o → OnSome IsOrdered (option_map (depth_at t) o)
  at t None h = tt
  at t (Some c) h = record { start = h.start; trig = h.trig; least = h.least }

  step : (o : Option Target) → OnSome IsOrdered (option_and_then (depth_with ws) o)
  step None = tt
  step (Some t) = at t (cycles_of t.kind ws) (in_order t.kind ws)

-- the depths that were read are deep
abbrev pub IsSound : Reader → Type 0
IsSound r = AllByRecursion IsDeep r.config.depths

abbrev pub Sound : Result Reader CfgFault → Type 0
Sound (Ok r) = IsSound r
Sound (Err e) = Unit {0}

sound_where : (b : Bool) (x y : Result Reader CfgFault) → Sound x → Sound y → Sound (cond b x y)
sound_where true x y h k = h
sound_where false x y h k = k

new_sound : (r : Reader) (line : ℕ) (word : List ℕ) (d : Depth) → IsSound r → IsOrdered d
    → Sound (with_new_depth r line word d)
new_sound r line word d h o =
    sound_where (list_any (is_for d.kind d.channel) r.config.depths) (Err (fault.Twice line word))
    (cond (nat_lt 100 d.cycle) (Err (fault.TooDeep line)) (Ok (with_depth_of r d))) tt
    (step (nat_lt 100 d.cycle) refl) where
      step : (b : Bool) → nat_lt 100 d.cycle ≡ b → Sound (cond b (Err (fault.TooDeep line)) (Ok (with_depth_of r d)))
      step true e = tt
      step false e =
          let m : d.cycle ≤ 100 = grind (arith, nat_tests) in
          all_append IsDeep r.config.depths (d ∷ []) h
          (record { start = o.start; trig = o.trig; least = o.least; most = m }, tt)

depth_sound : (r : Reader) (line : ℕ) (ws : List (List ℕ)) → IsSound r → Sound (with_depth r line ws)
depth_sound r line [] h = tt
depth_sound r line (w ∷ ws) h = sound_where (is_skipped w) (Ok (with_skip r w))
    (with_depth_read r line w (depth_of r.config.nret w ws)) h
    (step (depth_of r.config.nret w ws) (depth_ordered r.config.nret w ws)) where
      step : (o : Option Depth) → OnSome IsOrdered o → Sound (with_depth_read r line w o)
      step None k = tt
      step (Some d) k = new_sound r line w d h k

once_sound : (r : Reader) (line : ℕ) (key : List ℕ) → IsSound r → Sound (once r line key)
once_sound r line key h = sound_where (is_among r.keys key) (Err (fault.Twice line key)) (Ok (with_key r key)) tt h

isa_sound : (r : Reader) (line : ℕ) (key : List ℕ) (vs : List (List ℕ)) → IsSound r → Sound (with_isa r line key vs)
isa_sound r line key [] h = tt
isa_sound r line key (v ∷ []) h = step (isa_named v) where
  step : (o : Option Isa) → Sound (with_isa_named r line key v o)
  step None = tt
  step (Some i) = once_sound (with_isa_of i r) line key h
isa_sound r line key (v ∷ w ∷ ws) h = tt

nret_sound : (r : Reader) (line : ℕ) (key : List ℕ) (vs : List (List ℕ)) → IsSound r → Sound (with_nret r line key vs)
nret_sound r line key [] h = tt
nret_sound r line key (v ∷ []) h =
    sound_where (is_among r.keys key) (Err (fault.Twice line key)) (with_nret_named r line key (nret_named v)) tt
    (step (nret_named v)) where
      step : (o : Option ℕ) → Sound (with_nret_named r line key o)
      step None = tt
      step (Some n) = h
nret_sound r line key (v ∷ w ∷ ws) h = tt

option_sound : (r : Reader) (line : ℕ) (ws : List (List ℕ)) → IsSound r → Sound (with_option r line ws)
option_sound r line [] h = tt
option_sound r line (key ∷ vs) h =
    sound_where (bytes_eq key (codes "isa")) (with_isa r line key vs)
    (cond (bytes_eq key (codes "nret")) (with_nret r line key vs)
    (cond (is_among idle_keys key) (once r line key) (Err (fault.Option line key)))) (isa_sound r line key vs h)
    (sound_where (bytes_eq key (codes "nret")) (with_nret r line key vs)
    (cond (is_among idle_keys key) (once r line key) (Err (fault.Option line key))) (nret_sound r line key vs h)
    (sound_where (is_among idle_keys key) (once r line key) (Err (fault.Option line key)) (once_sound r line key h) tt))

script_sound : (r : Reader) (line : ℕ) (ws : List (List ℕ)) → IsSound r → Sound (with_script r line ws)
script_sound r line ws h = step (names_read ws) where
  step : (o : Option (List (List ℕ))) → Sound (with_names r line o)
  step None = tt
  step (Some names) = h

in_sound : (s : Section) (r : Reader) (line : ℕ) (text : List ℕ) → IsSound r → Sound (with_text_in s r line text)
in_sound s.Options r line text h = option_sound r line (words text) h
in_sound s.Depth r line text h = depth_sound r line (words text) h
in_sound s.Defines r line text h = h
in_sound (s.KindDefines kind) r line text h = h
in_sound s.VerilogFiles r line text h = h
in_sound s.ScriptSources r line text h = script_sound r line (words text) h
in_sound s.Csrs r line text h = h
in_sound s.Sort r line text h = h
in_sound s.Assume r line text h = h

text_sound : (r : Reader) (line : ℕ) (text : List ℕ) → IsSound r → Sound (with_text r line text)
text_sound r line text h = step r.section where
  step : (o : Option Section) → Sound (with_text_at o r line text)
  step None = tt
  step (Some s) = in_sound s r line text h

section_sound : (r : Reader) (line : ℕ) (name : List ℕ) → IsSound r → Sound (with_section r line name)
section_sound r line name h = step (section_named name) where
  step : (o : Option Section) → Sound (with_section_named o r line name)
  step None = tt
  step (Some s) = sound_where (is_among r.sections name) (Err (fault.Twice line name)) (Ok (in_section r s name)) tt h

line_sound : (r : Reader) (l : Line) → IsSound r → Sound (with_line r l)
line_sound r l h = step (section_begun l.text) where
  step : (o : Option (List ℕ)) → Sound (with_line_begun o r l)
  step None = text_sound r l.number l.text h
  step (Some name) = section_sound r l.number name h

lines_sound : (ls : List Line) (r : Reader) → IsSound r → Sound (with_lines r ls)
lines_sound [] r h = h
lines_sound (l ∷ ls) r h = step (with_line r l) (line_sound r l h) (λ s k. lines_sound ls s k) where
  step : (o : Result Reader CfgFault) → Sound o → ((s : Reader) → IsSound s → Sound (with_lines s ls))
      → Sound (and_then o (λ s. with_lines s ls))
  step (Err e) k f = tt
  step (Ok s) k f = f s k

abbrev pub IsRead : Result Config CfgFault → Type 0
IsRead (Ok c) = AllByRecursion IsDeep c.depths
IsRead (Err e) = Unit {0}

finish_sound : (r : Reader) → IsSound r → IsRead (finished r)
finish_sound r h = step (is_nil r.config.depths && is_nil r.config.skips) (is_nil r.config.files) where
  step : (a b : Bool) → IsRead (cond a (Err (fault.Missing (codes "depth")))
      (cond b (Err (fault.Missing (codes "verilog-files"))) (Ok r.config)))
  step true b = tt
  step false true = tt
  step false false = h

all_sound : (ls : List Line) → IsRead (config_of_lines ls)
all_sound ls = step (with_lines (start (stated_nret ls)) ls) (lines_sound ls (start (stated_nret ls)) tt) where
  step : (o : Result Reader CfgFault) → Sound o → IsRead (and_then o finished)
  step (Err e) k = tt
  step (Ok r) k = finish_sound r k

read_sound : (bytes : List ℕ) → IsRead (config_of bytes)
read_sound bytes = step (is_utf8 bytes) where
  step : (b : Bool) → IsRead (cond b (config_of_lines (counted_lines bytes)) (Err fault.NotUtf8))
  step true = all_sound (counted_lines bytes)
  step false = tt

-- a configuration that was read has lawful checks
pub read_is_lawful : (bytes : List ℕ) (r : Result Config CfgFault) → Answers r (config_of bytes)
    → IfOk r (λ c. HasLawfulChecks c)
read_is_lawful bytes (Ok c) e = deep_is_lawful c (subst IsRead e (read_sound bytes))
read_is_lawful bytes (Err f) e = tt
