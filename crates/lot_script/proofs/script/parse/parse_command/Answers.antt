use Rattle.std.proofs.Common.{sym, ap, ◌∙◌}
use Rattle.std.proofs.lemmas.Result.{IfOk-weaker}
use Rattle.lot_script.specs.declared.script.keyword.Keyword.TheVariants as keyword
use Rattle.lot_script.specs.Private.Parsing.{texts_left, keyword_text, keyword_of}
use Rattle.lot_script.proofs.ParseLemmas.{IsLine-command, command-IsLine, keyword_text-injective}
use Rattle.lot_script.proofs.script.parse.parse_command.Goals as goal

pub returns-in_default-clause-bad : goal.returns-in_default-clause-bad
returns-in_default-clause-bad c bad command is_line =
    c.in_default.ensures.none (keyword_of command)
    (command-IsLine c.args.line.now c.split_word.result.0.now
    (texts_left c.split_word.result.1) command c.split_word.ensures is_line).0

pub returns-in-Filter-clause-found : goal.returns-in-Filter-clause-found
returns-in-Filter-clause-found c =
    IfOk-weaker c.parse_filter.result _ _
    (λ command arguments. IsLine-command c.args.line.now c.split_word.result.0.now (texts_left c.split_word.result.1)
    keyword.Filter command c.requires c.split_word.ensures
    (c.in-Some.ensures.found ∙ ap keyword_text c.in-Filter.is) arguments)
    c.parse_filter.ensures.found

pub returns-in-Filter-clause-bad : goal.returns-in-Filter-clause-bad
returns-in-Filter-clause-bad c bad command is_line =
    let parts = command-IsLine c.args.line.now c.split_word.result.0.now
    (texts_left c.split_word.result.1) command c.split_word.ensures is_line in
    c.parse_filter.ensures.bad bad command (record {
      keyword = keyword_text-injective (keyword_of command) keyword.Filter
          (sym parts.0 ∙ c.in-Some.ensures.found ∙ ap keyword_text c.in-Filter.is);
      words = parts.1;
    })

pub returns-in-Some-parse_arguments-clause-found : goal.returns-in-Some-parse_arguments-clause-found
returns-in-Some-parse_arguments-clause-found c =
    IsLine-command c.args.line.now c.split_word.result.0.now (texts_left c.split_word.result.1) c.in-Some.keyword
    c.in-Some-parse_arguments.command c.requires c.split_word.ensures c.in-Some.ensures.found
    c.in-Some-parse_arguments.ensures.found

pub returns-in-None-clause-bad : goal.returns-in-None-clause-bad
returns-in-None-clause-bad c bad command is_line =
    let parts = command-IsLine c.args.line.now c.split_word.result.0.now
    (texts_left c.split_word.result.1) command c.split_word.ensures is_line in
    c.in-None.ensures.none command (record {
      keyword = keyword_text-injective (keyword_of command) c.in-Some.keyword (sym parts.0 ∙ c.in-Some.ensures.found);
      words = parts.1;
    })
