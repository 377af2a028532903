pub mod SinkLaws
