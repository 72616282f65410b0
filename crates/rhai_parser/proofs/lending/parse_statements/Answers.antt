use Rattle.rhai_parser.proofs.lending.parse_statements.Goals as goal

pub parse_statements-requires : goal.parse_statements-requires
parse_statements-requires c = record {
  lent = λ m below. (
    λ engine shared frame settings is. (tt, λ result after told. told.1),
    λ engine shared frame settings is. (tt, λ result after after_frame told. told.1),
    λ engine shared frame settings kind is. (tt, λ result after told. told.2),
    λ engine shared frame settings is. (tt, λ result after told. told.1),
    λ engine shared frame settings compound is. (compound, λ result after told. told.1),
  );
}
