use Rattle.std.proofs.Common.{◌<◌, arith}
use Rattle.rhai_tokenizer.proofs.SegmentLemmas.{symbol_segment, entry_part}
use Rattle.rhai_tokenizer.proofs.lexer.symbols_from.Goals as goal

pub slice_bounds-result-count : goal.slice_bounds-result-count
slice_bounds-result-count c = let h : c.args.first < 256 = omega arith in rw c.symbol_starts-starts.ensures
    (symbol_segment c.args.first h).order

pub slice_bounds-result-start : goal.slice_bounds-result-start
slice_bounds-result-start c = let h : c.args.first < 256 = omega arith in rw c.symbol_starts-starts.ensures
    (symbol_segment c.args.first h).order

pub slice_bounds-result-end : goal.slice_bounds-result-end
slice_bounds-result-end c = let h : c.args.first < 256 = omega arith in let
    w = (symbol_segment c.args.first h).within in rw c.symbol_starts-starts.ensures
    (omega (arith, w, c.symbols.ensures.len))

pub returns : goal.returns
returns c t = let h : c.args.first < 256 = omega arith in entry_part _ c.symbols.result.now _ _ _ _ c.args.first t
    c.symbols.ensures.value c.symbol_starts-starts.ensures (symbol_segment c.args.first h)
