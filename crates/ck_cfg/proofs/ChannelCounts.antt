-- A configuration that was read has the number of channels that its lines state.
use Rattle.std.proofs.Common.{◌≡◌, ℕ, Bool, true, false, cond, ◌&&◌, List, [], ◌∷◌, Option, Some, None, Result, Ok, Err}
use Rattle.std.proofs.Common.{refl, subst, sym, ◌≤◌, arith}
use Rattle.std.specs.Prelude.{nat_lt, codes, IfOk, unwrap_or}
use Rattle.std.specs.Option.{option_or}
use Rattle.std.specs.List.{list_any}
use Rattle.std.specs.Str.{bytes_eq, is_utf8}
use Rattle.ck_cfg.specs.declared.config.Config.{Config}
use Rattle.ck_cfg.specs.declared.config.Depth.{Depth}
use Rattle.ck_cfg.specs.declared.fault.CfgFault.{CfgFault}
use Rattle.ck_cfg.specs.declared.fault.CfgFault.TheVariants as fault
use Rattle.ck_cfg.specs.declared.reader.Reader.{Reader}
use Rattle.ck_cfg.specs.declared.section.Section.{Section}
use Rattle.ck_cfg.specs.declared.section.Section.TheVariants as s
use Rattle.fv_lines.specs.Words.{is_nil, words}
use Rattle.rv_table.specs.declared.retire.Isa.{Isa}
use Rattle.ck_cfg.specs.Channels.{nret_said, nret_in, nret_at, stays_inside, nret_among, stated_nret}
use Rattle.ck_cfg.specs.Depths.{is_skipped, is_for, depth_of, with_skip, with_depth_of, with_new_depth}
use Rattle.ck_cfg.specs.Depths.{with_depth_read, with_depth}
use Rattle.ck_cfg.specs.Options.{is_among, isa_named, idle_keys, with_key, once, with_isa_of, with_isa_named}
use Rattle.ck_cfg.specs.Options.{with_isa, nret_named, with_nret_named, with_nret, with_option}
use Rattle.ck_cfg.specs.Scripts.{names_read, with_names, with_script}
use Rattle.ck_cfg.specs.Section.{section_named}
use Rattle.ck_cfg.specs.Line.{Line, section_begun, counted_lines}
use Rattle.fv_text.specs.Results.{and_then}
use Rattle.ck_cfg.specs.Faults.{Answers}
use Rattle.ck_cfg.specs.Reading.{start, in_section, with_text_in, with_text_at, with_text, with_section_named}
use Rattle.ck_cfg.specs.Reading.{with_section, with_line_begun, with_line, with_lines, finished, config_of_lines}
use Rattle.ck_cfg.specs.Reading.{config_of}
use Rattle.ck_cfg.proofs.Depths.{OnSome}

module _ (n : ℕ) where
  abbrev pub HasN : Reader → Type 0
  HasN r = r.config.nret ≡ n

  abbrev pub Keeps : Result Reader CfgFault → Type 0
  Keeps (Ok r) = HasN r
  Keeps (Err e) = Unit {0}

  keeps_where : (b : Bool) (x y : Result Reader CfgFault) → Keeps x → Keeps y → Keeps (cond b x y)
  keeps_where true x y h k = h
  keeps_where false x y h k = k

  new_keeps : (r : Reader) (line : ℕ) (word : List ℕ) (d : Depth) → HasN r → Keeps (with_new_depth r line word d)
  new_keeps r line word d h =
      keeps_where (list_any (is_for d.kind d.channel) r.config.depths) (Err (fault.Twice line word))
      (cond (nat_lt 100 d.cycle) (Err (fault.TooDeep line)) (Ok (with_depth_of r d))) tt
      (keeps_where (nat_lt 100 d.cycle) (Err (fault.TooDeep line)) (Ok (with_depth_of r d)) tt h)

  depth_keeps : (r : Reader) (line : ℕ) (ws : List (List ℕ)) → HasN r → Keeps (with_depth r line ws)
  depth_keeps r line [] h = tt
  depth_keeps r line (w ∷ ws) h = keeps_where (is_skipped w) (Ok (with_skip r w))
      (with_depth_read r line w (depth_of r.config.nret w ws)) h (step (depth_of r.config.nret w ws)) where
        step : (o : Option Depth) → Keeps (with_depth_read r line w o)
        step None = tt
        step (Some d) = new_keeps r line w d h

  once_keeps : (r : Reader) (line : ℕ) (key : List ℕ) → HasN r → Keeps (once r line key)
  once_keeps r line key h = keeps_where (is_among r.keys key) (Err (fault.Twice line key)) (Ok (with_key r key)) tt h

  isa_keeps : (r : Reader) (line : ℕ) (key : List ℕ) (vs : List (List ℕ)) → HasN r → Keeps (with_isa r line key vs)
  isa_keeps r line key [] h = tt
  isa_keeps r line key (v ∷ []) h = step (isa_named v) where
    step : (o : Option Isa) → Keeps (with_isa_named r line key v o)
    step None = tt
    step (Some i) = once_keeps (with_isa_of i r) line key h
  isa_keeps r line key (v ∷ w ∷ ws) h = tt

  nret_keeps : (r : Reader) (line : ℕ) (key : List ℕ) (vs : List (List ℕ)) → HasN r → Keeps (with_nret r line key vs)
  nret_keeps r line key [] h = tt
  nret_keeps r line key (v ∷ []) h =
      keeps_where (is_among r.keys key) (Err (fault.Twice line key)) (with_nret_named r line key (nret_named v)) tt
      (step (nret_named v)) where
        step : (o : Option ℕ) → Keeps (with_nret_named r line key o)
        step None = tt
        step (Some m) = h
  nret_keeps r line key (v ∷ w ∷ ws) h = tt

  option_keeps : (r : Reader) (line : ℕ) (ws : List (List ℕ)) → HasN r → Keeps (with_option r line ws)
  option_keeps r line [] h = tt
  option_keeps r line (key ∷ vs) h =
      keeps_where (bytes_eq key (codes "isa")) (with_isa r line key vs)
      (cond (bytes_eq key (codes "nret")) (with_nret r line key vs)
      (cond (is_among idle_keys key) (once r line key) (Err (fault.Option line key)))) (isa_keeps r line key vs h)
      (keeps_where (bytes_eq key (codes "nret")) (with_nret r line key vs)
      (cond (is_among idle_keys key) (once r line key) (Err (fault.Option line key))) (nret_keeps r line key vs h)
      (keeps_where (is_among idle_keys key) (once r line key) (Err (fault.Option line key)) (once_keeps r line key h) tt))

  script_keeps : (r : Reader) (line : ℕ) (ws : List (List ℕ)) → HasN r → Keeps (with_script r line ws)
  script_keeps r line ws h = step (names_read ws) where
    step : (o : Option (List (List ℕ))) → Keeps (with_names r line o)
    step None = tt
    step (Some names) = h

  in_keeps : (s : Section) (r : Reader) (line : ℕ) (text : List ℕ) → HasN r → Keeps (with_text_in s r line text)
  in_keeps s.Options r line text h = option_keeps r line (words text) h
  in_keeps s.Depth r line text h = depth_keeps r line (words text) h
  in_keeps s.Defines r line text h = h
  in_keeps (s.KindDefines kind) r line text h = h
  in_keeps s.VerilogFiles r line text h = h
  in_keeps s.ScriptSources r line text h = script_keeps r line (words text) h
  in_keeps s.Csrs r line text h = h
  in_keeps s.Sort r line text h = h
  in_keeps s.Assume r line text h = h

  text_keeps : (r : Reader) (line : ℕ) (text : List ℕ) → HasN r → Keeps (with_text r line text)
  text_keeps r line text h = step r.section where
    step : (o : Option Section) → Keeps (with_text_at o r line text)
    step None = tt
    step (Some s) = in_keeps s r line text h

  section_keeps : (r : Reader) (line : ℕ) (name : List ℕ) → HasN r → Keeps (with_section r line name)
  section_keeps r line name h = step (section_named name) where
    step : (o : Option Section) → Keeps (with_section_named o r line name)
    step None = tt
    step (Some s) = keeps_where (is_among r.sections name) (Err (fault.Twice line name)) (Ok (in_section r s name)) tt h

  line_keeps : (r : Reader) (l : Line) → HasN r → Keeps (with_line r l)
  line_keeps r l h = step (section_begun l.text) where
    step : (o : Option (List ℕ)) → Keeps (with_line_begun o r l)
    step None = text_keeps r l.number l.text h
    step (Some name) = section_keeps r l.number name h

  lines_keeps : (ls : List Line) (r : Reader) → HasN r → Keeps (with_lines r ls)
  lines_keeps [] r h = h
  lines_keeps (l ∷ ls) r h = step (with_line r l) (line_keeps r l h) (λ s k. lines_keeps ls s k) where
    step : (o : Result Reader CfgFault) → Keeps o → ((s : Reader) → HasN s → Keeps (with_lines s ls))
        → Keeps (and_then o (λ s. with_lines s ls))
    step (Err e) k f = tt
    step (Ok s) k f = f s k

  abbrev pub IsRead : Result Config CfgFault → Type 0
  IsRead (Ok c) = c.nret ≡ n
  IsRead (Err e) = Unit {0}

  finish_keeps : (r : Reader) → HasN r → IsRead (finished r)
  finish_keeps r h = step (is_nil r.config.depths && is_nil r.config.skips) (is_nil r.config.files) where
    step : (a b : Bool) → IsRead (cond a (Err (fault.Missing (codes "depth")))
        (cond b (Err (fault.Missing (codes "verilog-files"))) (Ok r.config)))
    step true b = tt
    step false true = tt
    step false false = h

all_keeps : (ls : List Line) → IsRead (stated_nret ls) (config_of_lines ls)
all_keeps ls =
    let n = stated_nret ls in step n (with_lines (start n) ls) (lines_keeps n ls (start n) refl) where
      step : (n : ℕ) (o : Result Reader CfgFault) → Keeps n o → IsRead n (and_then o finished)
      step n (Err e) k = tt
      step n (Ok r) k = finish_keeps n r k

read_keeps : (bytes : List ℕ) → IsRead (stated_nret (counted_lines bytes)) (config_of bytes)
read_keeps bytes = step (is_utf8 bytes) where
  step : (b : Bool) → IsRead (stated_nret (counted_lines bytes))
      (cond b (config_of_lines (counted_lines bytes)) (Err fault.NotUtf8))
  step true = all_keeps (counted_lines bytes)
  step false = tt

-- a configuration that was read has the number of channels that its lines state
pub read_has_stated : (bytes : List ℕ) (r : Result Config CfgFault) → Answers r (config_of bytes)
    → IfOk r (λ c. c.nret ≡ stated_nret (counted_lines bytes))
read_has_stated bytes (Ok c) e = subst (IsRead (stated_nret (counted_lines bytes))) e (read_keeps bytes)
read_has_stated bytes (Err f) e = tt

-- ---- what lines state is one or two

abbrev pub IsFew : ℕ → Type 0
IsFew n = (1 ≤ n) × (n ≤ 2)

few_one : IsFew 1
few_one = (omega arith, omega arith)

few_two : IsFew 2
few_two = (omega arith, omega arith)

named_few : (value : List ℕ) → IsFew (unwrap_or (nret_named value) 1)
named_few value = step (bytes_eq value (codes "1")) (bytes_eq value (codes "2")) where
  step : (a b : Bool) → IsFew (unwrap_or (cond a (Some 1) (cond b (Some 2) None)) 1)
  step true b = few_one
  step false true = few_two
  step false false = few_one

said_few : (values : List (List ℕ)) → IsFew (nret_said values)
said_few [] = few_one
said_few (v ∷ []) = named_few v
said_few (v ∷ w ∷ ws) = few_one

in_few : (ws : List (List ℕ)) → OnSome IsFew (nret_in ws)
in_few [] = tt
in_few (key ∷ values) = step (bytes_eq key (codes "nret")) where
  step : (b : Bool) → OnSome IsFew (cond b (Some (nret_said values)) None)
  step true = said_few values
  step false = tt

at_few : (inside : Bool) (text : List ℕ) → OnSome IsFew (nret_at inside text)
at_few true text = in_few (words text)
at_few false text = tt

or_few : (a b : Option ℕ) → OnSome IsFew a → OnSome IsFew b → OnSome IsFew (option_or a b)
or_few None b h k = k
or_few (Some n) b h k = h

among_few : (inside : Bool) (ls : List Line) → OnSome IsFew (nret_among inside ls)
among_few inside [] = tt
among_few inside (l ∷ ls) =
    let now = stays_inside inside (section_begun l.text) in
    or_few (nret_at inside l.text) (nret_among now ls) (at_few inside l.text) (among_few now ls)

stated_few : (ls : List Line) → IsFew (stated_nret ls)
stated_few ls = step (nret_among false ls) (among_few false ls) where
  step : (o : Option ℕ) → OnSome IsFew o → IsFew (unwrap_or o 1)
  step None h = few_one
  step (Some n) h = h

-- a configuration that was read has one channel or two
pub read_is_few : (bytes : List ℕ) (r : Result Config CfgFault) → Answers r (config_of bytes)
    → IfOk r (λ c. (1 ≤ c.nret) × (c.nret ≤ 2))
read_is_few bytes (Ok c) e =
    subst IsFew (sym (read_has_stated bytes (Ok c) e)) (stated_few (counted_lines bytes))
read_is_few bytes (Err f) e = tt
