pub mod AloneLaws
