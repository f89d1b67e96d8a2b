use Rattle.std.proofs.Common.{◌≡◌, ◌∙◌, ◌∷◌, ℕ, List, Err, ap, subst, rules}
use Rattle.fv_base.specs.Outside.{FilesState}
use Rattle.ck_cfg.specs.declared.config.Config.{Config}
use Rattle.rvf_case.specs.Cases.{AreRead, Request, Seen, names_in, questions_in, request_seen, seen_between}
use Rattle.rvf_case.specs.Hearing.{gave}
use Rattle.rvf_case.specs.Steps.{Loads, ReadsFiles}
use Rattle.rvf_case.specs.declared.refusal.Refusal.{Refusal}
use Rattle.rvf_case.specs.declared.refusal.Refusal.TheVariants as refusal
use Rattle.rvf_case.proofs.Files.{check_stops, config_first, configuration_stops, files_stop, heard_behind, heard_so, no_less}
use Rattle.rvf_case.proofs.Files.{read_earlier, same_in_turn, seen_from, stands}
use Rattle.rvf_case.proofs.Quiet.{follows, in_any_answer, in_any_case}
use Rattle.rvf_case.proofs.preparing.prepared.Goals as goal

pub returns-in_err-config-clause-prepares : goal.returns-in_err-config-clause-prepares
returns-in_err-config-clause-prepares g c =
    let first : FilesState = g.F.Files.state c.args.files.now in
    let now : FilesState = g.F.Files.state c.read_config.new.files in
    let left : c.from_residual.result ≡ Err c.in_err-config.field-0.0 = search rules in
    rw left (heard_so _ _ c.in_err-config.ensures.configures
    (λ events h. configuration_stops c.in_err-config.field-0.0 (request_seen c.args.request) (seen_between first now)
    events h))

pub returns-in_err-find_asked-clause-prepares : goal.returns-in_err-find_asked-clause-prepares
returns-in_err-find_asked-clause-prepares g c =
    let first : FilesState = g.F.Files.state c.args.files.now in
    let now : FilesState = g.F.Files.state c.read_config.new.files in
    let f : Refusal = c.in_err-find_asked.field-0.0 in
    let left : c.from_residual-in_err-find_asked.result ≡ Err f = search rules in
    rw left (heard_so _ _ c.in_ok-config.ensures.configures
    (λ events h. check_stops f (request_seen c.args.request) (seen_between first now) c.in_ok-config.config events h
    c.in_err-find_asked.ensures))

pub returns-in_err-names-clause-prepares : goal.returns-in_err-names-clause-prepares
returns-in_err-names-clause-prepares g c =
    let left : c.from_residual-in_err-names.result ≡ Err refusal.Memory = search rules in
    rw left (heard_so _ _ c.in_ok-config.ensures.configures
    (λ events h. config_first (request_seen c.args.request) (g.F.Files.state c.args.files.now).held
    c.in_ok-config.config events h))

pub returns-in_err-texts-clause-prepares : goal.returns-in_err-texts-clause-prepares
returns-in_err-texts-clause-prepares g c =
    let first : FilesState = g.F.Files.state c.args.files.now in
    let middle : FilesState = g.F.Files.state c.read_config.new.files in
    let now : FilesState = g.F.Files.state c.read_files.new.files in
    let seen : Seen = seen_between first now in
    let f : Refusal = c.in_err-texts.field-0.0 in
    let left : c.from_residual-in_err-texts.result ≡ Err f = search rules in
    let names : c.as_slice.result.now ≡ names_in (request_seen c.args.request) c.in_ok-config.config =
    c.as_slice.ensures ∙ c.in_ok-names.ensures in
    rw left (heard_behind first.heard middle.heard now.heard _ _ _ c.in_ok-config.ensures.configures
    c.in_err-texts.ensures.reads
    (λ says events k h. files_stop f (request_seen c.args.request) seen c.in_ok-config.config middle.held middle.misses
    middle.faults says events k c.in_ok-find_asked.ensures c.in_ok-config.ensures.kept c.in_ok-config.ensures.misses_grow
    c.in_ok-config.ensures.faults_grow
    (subst (λ (ns : List (List ℕ)). ReadsFiles ns (seen_from seen middle.held middle.misses middle.faults) events
    (Err f)) names h)))

pub returns-in_err-all-clause-prepares : goal.returns-in_err-all-clause-prepares
returns-in_err-all-clause-prepares g c =
    let r : Request = request_seen c.args.request in
    let config : Config = c.in_ok-config.config in
    let first : FilesState = g.F.Files.state c.args.files.now in
    let middle : FilesState = g.F.Files.state c.read_config.new.files in
    let now : FilesState = g.F.Files.state c.read_files.new.files in
    let names : c.as_slice.result.now ≡ names_in r config = c.as_slice.ensures ∙ c.in_ok-names.ensures in
    let left : c.from_residual-in_err-all.result ≡ Err refusal.Memory = search rules in
    rw left (heard_behind first.heard middle.heard now.heard _ _ _ c.in_ok-config.ensures.configures
    c.in_ok-texts.ensures.reads
    (λ says events k h. stands (Err refusal.Memory) r (seen_between first now) config c.in_ok-texts.texts says events k
    c.in_ok-find_asked.ensures
    (read_earlier first.held middle.held (names_in r config) c.in_ok-texts.texts c.in_ok-config.ensures.kept
    (subst (λ (ns : List (List ℕ)). AreRead middle.held ns c.in_ok-texts.texts) names h.0))
    (h.1 ∙ ap (λ ns. gave ns c.in_ok-texts.texts) names) tt))

pub returns-clause-prepares : goal.returns-clause-prepares
returns-clause-prepares g c =
    let r : Request = request_seen c.args.request in
    let config : Config = c.in_ok-config.config in
    let first : FilesState = g.F.Files.state c.args.files.now in
    let middle : FilesState = g.F.Files.state c.read_config.new.files in
    let now : FilesState = g.F.Files.state c.read_files.new.files in
    let names : c.as_slice.result.now ≡ names_in r config = c.as_slice.ensures ∙ c.in_ok-names.ensures in
    let all : c.in_ok-all.all ≡ r.cfg ∷ names_in r config =
    c.in_ok-all.ensures ∙ ap (λ (ns : List (List ℕ)). r.cfg ∷ ns) c.in_ok-names.ensures in
    heard_behind first.heard middle.heard now.heard _ _ _ c.in_ok-config.ensures.configures
    c.in_ok-texts.ensures.reads
    (λ says events k h. stands c.case_of.result r (seen_between first now) config c.in_ok-texts.texts says events k
    c.in_ok-find_asked.ensures
    (read_earlier first.held middle.held (names_in r config) c.in_ok-texts.texts c.in_ok-config.ensures.kept
    (subst (λ (ns : List (List ℕ)). AreRead middle.held ns c.in_ok-texts.texts) names h.0))
    (h.1 ∙ ap (λ ns. gave ns c.in_ok-texts.texts) names)
    (subst (λ (ns : List (List ℕ)). Loads ns config c.in_ok-texts.texts (questions_in r config) c.case_of.result) all
    (subst (λ (fs : List (List ℕ)). Loads c.in_ok-all.all config fs (questions_in r config) c.case_of.result)
    c.as_slice-2.ensures
    c.case_of.ensures.loads)))

pub returns-in_err-texts-clause-unwritten : goal.returns-in_err-texts-clause-unwritten
returns-in_err-texts-clause-unwritten g c = c.in_err-texts.ensures.unwritten ∙ c.in_ok-config.ensures.unwritten

pub returns-in_err-all-clause-unwritten : goal.returns-in_err-all-clause-unwritten
returns-in_err-all-clause-unwritten g c = c.in_ok-texts.ensures.unwritten ∙ c.in_ok-config.ensures.unwritten

pub returns-clause-unwritten : goal.returns-clause-unwritten
returns-clause-unwritten g c = c.in_ok-texts.ensures.unwritten ∙ c.in_ok-config.ensures.unwritten

pub returns-in_err-texts-clause-kept : goal.returns-in_err-texts-clause-kept
returns-in_err-texts-clause-kept g c =
    same_in_turn (g.F.Files.state c.args.files.now).held (g.F.Files.state c.read_config.new.files).held
    (g.F.Files.state c.read_files.new.files).held c.in_ok-config.ensures.kept c.in_err-texts.ensures.kept

pub returns-in_err-texts-clause-misses_grow : goal.returns-in_err-texts-clause-misses_grow
returns-in_err-texts-clause-misses_grow g c =
    no_less _ _ _ c.in_ok-config.ensures.misses_grow c.in_err-texts.ensures.misses_grow

pub returns-in_err-texts-clause-faults_grow : goal.returns-in_err-texts-clause-faults_grow
returns-in_err-texts-clause-faults_grow g c =
    no_less _ _ _ c.in_ok-config.ensures.faults_grow c.in_err-texts.ensures.faults_grow

pub returns-in_err-all-clause-kept : goal.returns-in_err-all-clause-kept
returns-in_err-all-clause-kept g c =
    same_in_turn (g.F.Files.state c.args.files.now).held (g.F.Files.state c.read_config.new.files).held
    (g.F.Files.state c.read_files.new.files).held c.in_ok-config.ensures.kept c.in_ok-texts.ensures.kept

pub returns-in_err-all-clause-misses_grow : goal.returns-in_err-all-clause-misses_grow
returns-in_err-all-clause-misses_grow g c =
    no_less _ _ _ c.in_ok-config.ensures.misses_grow c.in_ok-texts.ensures.misses_grow

pub returns-in_err-all-clause-faults_grow : goal.returns-in_err-all-clause-faults_grow
returns-in_err-all-clause-faults_grow g c =
    no_less _ _ _ c.in_ok-config.ensures.faults_grow c.in_ok-texts.ensures.faults_grow

pub returns-clause-kept : goal.returns-clause-kept
returns-clause-kept g c =
    same_in_turn (g.F.Files.state c.args.files.now).held (g.F.Files.state c.read_config.new.files).held
    (g.F.Files.state c.read_files.new.files).held c.in_ok-config.ensures.kept c.in_ok-texts.ensures.kept

pub returns-clause-misses_grow : goal.returns-clause-misses_grow
returns-clause-misses_grow g c =
    no_less _ _ _ c.in_ok-config.ensures.misses_grow c.in_ok-texts.ensures.misses_grow

pub returns-clause-faults_grow : goal.returns-clause-faults_grow
returns-clause-faults_grow g c =
    no_less _ _ _ c.in_ok-config.ensures.faults_grow c.in_ok-texts.ensures.faults_grow

pub returns-in_err-config-clause-quiet : goal.returns-in_err-config-clause-quiet
returns-in_err-config-clause-quiet g c =
    let left : c.from_residual.result ≡ Err c.in_err-config.field-0.0 = search rules in
    rw left c.in_err-config.ensures.quiet

pub returns-in_err-find_asked-clause-quiet : goal.returns-in_err-find_asked-clause-quiet
returns-in_err-find_asked-clause-quiet g c =
    let f : Refusal = c.in_err-find_asked.field-0.0 in
    let left : c.from_residual-in_err-find_asked.result ≡ Err f = search rules in
    rw left (in_any_case f _ c.in_ok-config.ensures.quiet)

pub returns-in_err-names-clause-quiet : goal.returns-in_err-names-clause-quiet
returns-in_err-names-clause-quiet g c =
    let left : c.from_residual-in_err-names.result ≡ Err refusal.Memory = search rules in
    rw left tt

pub returns-in_err-texts-clause-quiet : goal.returns-in_err-texts-clause-quiet
returns-in_err-texts-clause-quiet g c =
    let left : c.from_residual-in_err-texts.result ≡ Err c.in_err-texts.field-0.0 = search rules in
    rw left (follows c.in_err-texts.field-0.0 _ _ (λ same. same ∙ c.in_ok-config.ensures.quiet)
    c.in_err-texts.ensures.quiet)

pub returns-in_err-all-clause-quiet : goal.returns-in_err-all-clause-quiet
returns-in_err-all-clause-quiet g c =
    let left : c.from_residual-in_err-all.result ≡ Err refusal.Memory = search rules in
    rw left tt

pub returns-clause-quiet : goal.returns-clause-quiet
returns-clause-quiet g c =
    in_any_answer c.case_of.result _ (c.in_ok-texts.ensures.quiet ∙ c.in_ok-config.ensures.quiet)
